use Rattle.std.proofs.Common.{false, ap, ◌∙◌}
use Rattle.std.specs.Option.{option_map_or}
use Rattle.dns_octets.specs.Lowered.{same_lowered}
use Rattle.dns_wire.specs.Wire.{wire}
use Rattle.zone_dnssec.proofs.NextNames.{owner_found}
use Rattle.zone_dnssec.proofs.links.is_next.Goals as goal

pub returns-in-Some : goal.returns-in-Some
returns-in-Some g c =
    let records = g.Z.ZoneRecords.contents c.args.records.now in
    c.is_owner_at.ensures ∙ owner_found (λ o. same_lowered c.args.octets.now (wire o)) c.args.origin.now records c.in-Some.place c.in-Some.ensures.bound false
    ∙ ap (λ o. same_lowered c.args.octets.now (wire (option_map_or (λ r. r.owner) o c.args.origin.now))) c.in-Some.ensures.value

pub returns-in-None : goal.returns-in-None
returns-in-None g c =
    c.same_octets.ensures ∙ ap (λ o. same_lowered c.args.octets.now o) c.octets_of.ensures.value
    ∙ ap (λ o. same_lowered c.args.octets.now (wire (option_map_or (λ r. r.owner) o c.args.origin.now))) c.in-None.ensures.value
