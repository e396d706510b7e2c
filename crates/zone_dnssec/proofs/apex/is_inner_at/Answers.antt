use Rattle.std.proofs.Common.{false, refl, ◌∙◌}
use Rattle.std.specs.Prelude.{slice_get}
use Rattle.zone_dnssec.specs.SignedApex.{is_inner_signature}
use Rattle.zone_dnssec.proofs.OwnedRecords.{of_listed}
use Rattle.zone_dnssec.proofs.apex.is_inner_at.Goals as goal

pub returns : goal.returns
returns g c =
    let records = g.Z.ZoneRecords.contents c.args.records.now in
    c.is_inner_signature.ensures
    ∙ of_listed (is_inner_signature c.args.origin.now records) (is_inner_signature c.args.origin.now records) (λ r. refl) (slice_get records c.args.place) c.record-one.result false c.record-one.ensures
