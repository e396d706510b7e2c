use Rattle.std.proofs.Common.{◌∙◌}
use Rattle.std.specs.Prelude.{slice_get}
use Rattle.zone_rules.proofs.ServiceLoops.{some_of_type}
use Rattle.zone_rules.proofs.services.is_of_type_at.Goals as goal

pub returns : goal.returns
returns g c = c.eq.ensures ∙ some_of_type c.args.rtype (slice_get (g.Z.ZoneRecords.contents c.args.records.now) c.args.place) c.type_at.result c.type_at.ensures
