use Rattle.std.proofs.Common.{◌∙◌}
use Rattle.zone_cuts.specs.OwnRecords.{is_sought}
use Rattle.zone_cuts.proofs.OwnRecords.{has_is}
use Rattle.zone_cuts.proofs.owned.has_sought.Goals as goal

pub returns : goal.returns
returns g c =
    c.is_some.ensures
    ∙ has_is (is_sought c.args.sought.now) c.args.name.now (g.Z.ZoneRecords.contents c.args.records.now) c.places-first.result.0 c.places-first.result.1 c.places-first.ensures c.find_sought.result c.find_sought.ensures
