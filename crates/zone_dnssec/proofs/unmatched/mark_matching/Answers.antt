use Rattle.std.proofs.Common.{false, sym, ap, ◌∙◌}
use Rattle.std.specs.Option.{option_map_or}
use Rattle.dns_wire.specs.Order.{same_name}
use Rattle.zone_dnssec.specs.UnmatchedLinks.{is_matching}
use Rattle.zone_dnssec.proofs.Marks.{no_marks, owned_marks}
use Rattle.zone_dnssec.proofs.unmatched.mark_matching.Goals as goal

pub returns-in-Some : goal.returns-in-Some
returns-in-Some g c =
    let records = g.Z.ZoneRecords.contents c.args.records.now in
    owned_marks records c.view.result c.places-first.result.0 c.places-first.result.1 (is_matching c.args.origin.now c.args.chain.now c.args.name.now) _ _ c.requires c.places-first.ensures
    (λ owner. ap (λ o. option_map_or (λ x. same_name owner x) o false) (sym c.in-Some.ensures) ∙ ap (λ o. same_name owner o) (sym c.view.ensures)) c.mark_within.ensures

pub returns-in_default : goal.returns-in_default
returns-in_default g c =
    let records = g.Z.ZoneRecords.contents c.args.records.now in
    no_marks records (is_matching c.args.origin.now c.args.chain.now c.args.name.now) _ (λ owner. ap (λ o. option_map_or (λ x. same_name owner x) o false) (sym c.owner_for.ensures ∙ c.in_default.is))
