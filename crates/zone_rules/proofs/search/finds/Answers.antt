use Rattle.std.proofs.Common.{Some, false, sym, ap, ◌∙◌, rules}
use Rattle.std.specs.Prelude.{◌==◌, ◌&&◌}
use Rattle.std.specs.List.{list_any}
use Rattle.std.specs.Option.{option_map_or}
use Rattle.std.specs.Ordering.{is_eq, is_lt}
use Rattle.std.proofs.lemmas.Option.{slice_get-get_or, slice_get_past}
use Rattle.std.proofs.lemmas.List.Sorted.{IsPartitionPoint-from_clause}
use Rattle.dns_wire.specs.Order.{same_name}
use Rattle.zone_rules.specs.Present.{set_order}
use Rattle.zone_rules.proofs.Searches.{is_wanted, wanted, wanted_is, sets_parted, set_found}
use Rattle.zone_rules.proofs.search.finds.Goals as goal

pub returns-in-Some : goal.returns-in-Some
returns-in-Some g c =
    let rrset = g.T.OfRrset.rrset in
    let name = c.view.result in
    let rtype = c.args.rtype in
    let all = c.args.items.now in
    let place = c.partition_point-place.result in
    let found = set_found rrset name rtype all place c.requires
    (IsPartitionPoint-from_clause (λ s. is_lt (set_order (rrset s) (wanted rrset name rtype))) all place c.partition_point-place.ensures.partitioned (sets_parted rrset name rtype all c.requires) (λ a r q k. search rules)) in
    c.is_eq.ensures ∙ ap is_eq c.compare_to.ensures ∙ sym (wanted_is rrset name rtype c.in-Some.item.now)
    ∙ ap (λ o. option_map_or (is_wanted rrset name rtype) o false) (sym (slice_get-get_or all place c.in-Some.item.now c.in-Some.ensures.lookup.3.0 ∙ ap Some (sym c.in-Some.ensures.lookup.1)))
    ∙ sym found ∙ ap (λ n. list_any (λ x. same_name (rrset x).owner n && (rrset x).rtype == rtype) all) c.view.ensures

pub returns-in-None : goal.returns-in-None
returns-in-None g c =
    let rrset = g.T.OfRrset.rrset in
    let name = c.view.result in
    let rtype = c.args.rtype in
    let all = c.args.items.now in
    let place = c.partition_point-place.result in
    let found = set_found rrset name rtype all place c.requires
    (IsPartitionPoint-from_clause (λ s. is_lt (set_order (rrset s) (wanted rrset name rtype))) all place c.partition_point-place.ensures.partitioned (sets_parted rrset name rtype all c.requires) (λ a r q k. search rules)) in
    ap (λ o. option_map_or (is_wanted rrset name rtype) o false) (sym (slice_get_past all place c.in-None.ensures.lookup.3))
    ∙ sym found ∙ ap (λ n. list_any (λ x. same_name (rrset x).owner n && (rrset x).rtype == rtype) all) c.view.ensures
