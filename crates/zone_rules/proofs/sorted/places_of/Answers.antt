use Rattle.std.proofs.Common.{length, take, drop, refl, subst, sym, ◌+◌, ◌-◌, rules}
use Rattle.std.specs.Ordering.{is_lt}
use Rattle.std.proofs.lemmas.List.Sorted.{IsPartitionPoint-from_clause}
use Rattle.zone_record.specs.Names.{name_order}
use Rattle.zone_rules.specs.Searches.{AreOwnedFrom}
use Rattle.zone_rules.specs.Zones.{AreInOrder}
use Rattle.zone_rules.proofs.Lookups.{before_parted, owned_rest, rest_parted}
use Rattle.zone_rules.proofs.sorted.places_of.Goals as goal

pub count_up_to-count-requires : goal.count_up_to-count-requires
count_up_to-count-requires g c =
    rest_parted c.args.name.now c.as_slice-all.result.now c.partition_point-first.result (subst AreInOrder (sym c.as_slice-all.ensures.value) c.as_slice-all.ensures.in_order)

pub returns : goal.returns
returns g c =
    let name = c.args.name.now in
    let all = c.as_slice-all.result.now in
    let first = c.partition_point-first.result in
    let count = c.count_up_to-count.result in
    let order : AreInOrder all = subst AreInOrder (sym c.as_slice-all.ensures.value) c.as_slice-all.ensures.in_order in
    subst (λ rs. AreOwnedFrom name rs first (first + count)) c.as_slice-all.ensures.value
    (owned_rest name all (take (length all - first) (drop first all)) first count c.partition_point-first.ensures.bound c.count_up_to-count.ensures.bound refl
    (IsPartitionPoint-from_clause (λ r. is_lt (name_order r.owner name)) all first c.partition_point-first.ensures.partitioned (before_parted name all order) (λ a r q k. search rules))
    c.count_up_to-count.ensures.point)
