use Rattle.std.specs.Prelude.{slice_get}
use Rattle.zone_delegations.proofs.Listed.{some_type}
use Rattle.zone_delegations.proofs.cuts.type_at.Goals as goal

pub returns : goal.returns
returns g c = some_type (slice_get (g.Z.ZoneRecords.contents c.args.records.now) c.args.place) c.type_at.result c.type_at.ensures
