use Rattle.std.proofs.Common.{◌∙◌}
use Rattle.std.specs.Prelude.{slice_get}
use Rattle.zone_cuts.proofs.OwnRecords.{sought_in}
use Rattle.zone_cuts.proofs.owned.is_sought_at.Goals as goal

pub returns : goal.returns
returns g c = c.is_sought.ensures ∙ sought_in c.args.sought.now (slice_get (g.Z.ZoneRecords.contents c.args.records.now) c.args.place) c.record-one.result c.record-one.ensures
