use Rattle.std.proofs.Common.{Some, ◌∙◌}
use Rattle.std.specs.Prelude.{slice_get}
use Rattle.zone_rules.proofs.Subjects.{related_listed}
use Rattle.zone_rules.proofs.beside.is_related_at.Goals as goal

pub returns : goal.returns
returns g c = c.is_related.ensures ∙ related_listed c.args.relation c.args.record.now (slice_get (g.Z.ZoneRecords.contents c.args.records.now) c.args.place) (Some c.record-other.result) c.record-other.ensures
