use Rattle.std.proofs.Common.{◌≡◌, true, false, subst, rules}
use Rattle.std.specs.List.Sorted.{IsPartitionPoint}
use Rattle.std.specs.Ordering.{is_lt}
use Rattle.std.proofs.lemmas.List.Sorted.{IsPartitionPoint-from_clause}
use Rattle.zone_record.specs.Names.{name_order}
use Rattle.zone_rules.specs.Present.{set_order}
use Rattle.zone_rules.proofs.Searches.{first_parted, first_point}
use Rattle.zone_rules.proofs.Within.{owners_parted}
use Rattle.zone_rules.proofs.search.count_before.Goals as goal

pub returns-clause-point : goal.returns-clause-point
returns-clause-point g c =
    let rrset = g.T.OfRrset.rrset in
    let name = c.view.result in
    let all = c.args.items.now in
    let place = c.partition_point.result in
    subst (λ n. IsPartitionPoint (λ x. is_lt (name_order (rrset x).owner n) ≡ true) (λ x. is_lt (name_order (rrset x).owner n) ≡ false) all place) c.view.ensures
    (first_point rrset name all place
    (IsPartitionPoint-from_clause (λ s. is_lt (set_order (rrset s) (record { owner = name; rtype = 0 }))) all place c.partition_point.ensures.partitioned
    (first_parted rrset name all (owners_parted (λ x. (rrset x).owner) name all c.requires)) (λ a r q k. search rules)))
