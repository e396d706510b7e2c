use Rattle.std.proofs.Common.{Some, ap, refl, ◌∙◌}
use Rattle.std.specs.Prelude.{slice_get}
use Rattle.zone_dnssec.specs.DenialRecords.{soa_ttl}
use Rattle.zone_dnssec.proofs.OwnedRecords.{some_of_listed}
use Rattle.zone_dnssec.proofs.denial.ttl_at.Goals as goal

pub returns : goal.returns
returns g c =
    ap Some c.ttl_of_soa.ensures
    ∙ some_of_listed soa_ttl soa_ttl (λ r. refl) (slice_get (g.Z.ZoneRecords.contents c.args.records.now) c.args.place) c.record-one.result c.record-one.ensures
