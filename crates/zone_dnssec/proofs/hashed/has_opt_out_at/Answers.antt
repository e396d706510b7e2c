use Rattle.std.proofs.Common.{false, refl, ◌∙◌}
use Rattle.std.specs.Prelude.{slice_get}
use Rattle.zone_dnssec.specs.Nsec3Chain.{opts_out}
use Rattle.zone_dnssec.proofs.OwnedRecords.{of_listed}
use Rattle.zone_dnssec.proofs.hashed.has_opt_out_at.Goals as goal

pub returns : goal.returns
returns g c = c.has_opt_out.ensures ∙ of_listed opts_out opts_out (λ r. refl) (slice_get (g.Z.ZoneRecords.contents c.args.records.now) c.args.place) c.record-one.result false c.record-one.ensures
