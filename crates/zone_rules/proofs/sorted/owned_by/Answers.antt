use Rattle.std.proofs.Common.{length, take, drop, refl, sym, ap, subst, ◌-◌, ◌∙◌, rules}
use Rattle.std.specs.List.{filter}
use Rattle.std.specs.Ordering.{is_lt}
use Rattle.std.proofs.lemmas.List.Sorted.{IsPartitionPoint-from_clause}
use Rattle.dns_wire.specs.Order.{same_name}
use Rattle.zone_record.specs.Names.{name_order}
use Rattle.zone_rules.specs.Zones.{AreInOrder}
use Rattle.zone_rules.proofs.Lookups.{before_parted, rest_parted, owned_slice}
use Rattle.zone_rules.proofs.sorted.owned_by.Goals as goal

pub count_up_to-count-requires : goal.count_up_to-count-requires
count_up_to-count-requires g c =
    rest_parted c.args.name.now c.as_slice-all.result.now c.partition_point-from.result (subst AreInOrder (sym c.as_slice-all.ensures.value) c.as_slice-all.ensures.in_order)

pub returns : goal.returns
returns g c =
    let name = c.args.name.now in
    let all = c.as_slice-all.result.now in
    let from = c.partition_point-from.result in
    let order : AreInOrder all = subst AreInOrder (sym c.as_slice-all.ensures.value) c.as_slice-all.ensures.in_order in
    owned_slice name all (take (length all - from) (drop from all)) from c.count_up_to-count.result c.partition_point-from.ensures.bound c.count_up_to-count.ensures.bound refl
    (IsPartitionPoint-from_clause (λ r. is_lt (name_order r.owner name)) all from c.partition_point-from.ensures.partitioned (before_parted name all order) (λ a r q k. search rules)) c.count_up_to-count.ensures.point
    ∙ ap (filter (λ r. same_name r.owner name)) c.as_slice-all.ensures.value
