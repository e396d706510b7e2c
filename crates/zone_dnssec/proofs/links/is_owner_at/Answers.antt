use Rattle.std.proofs.Common.{false, ap, refl, ◌∙◌}
use Rattle.std.specs.Prelude.{slice_get}
use Rattle.dns_octets.specs.Lowered.{same_lowered}
use Rattle.dns_wire.specs.Wire.{wire}
use Rattle.zone_dnssec.proofs.OwnedRecords.{of_listed}
use Rattle.zone_dnssec.proofs.links.is_owner_at.Goals as goal

pub returns : goal.returns
returns g c =
    c.same_octets.ensures ∙ ap (λ o. same_lowered c.args.octets.now o) c.octets_of.ensures.value
    ∙ of_listed (λ r. same_lowered c.args.octets.now (wire r.owner)) (λ r. same_lowered c.args.octets.now (wire r.owner)) (λ r. refl) (slice_get (g.Z.ZoneRecords.contents c.args.records.now) c.args.place) c.record-one.result false
    c.record-one.ensures
