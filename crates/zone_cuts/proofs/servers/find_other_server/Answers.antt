use Rattle.zone_cuts.specs.Servers.{is_other_server}
use Rattle.zone_cuts.proofs.OwnRecords.{find_bound, find_is}
use Rattle.zone_cuts.proofs.servers.find_other_server.Goals as goal

pub returns-clause-bound : goal.returns-clause-bound
returns-clause-bound g c =
    find_bound (is_other_server c.args.name.now (g.Z.ZoneRecords.contents c.args.others.now)) c.args.name.now (g.Y.ZoneRecords.contents c.args.records.now) c.places-first.result.0 c.places-first.result.1 c.places-first.ensures
    c.find_other_within.result c.find_other_within.ensures

pub returns-clause-value : goal.returns-clause-value
returns-clause-value g c =
    find_is (is_other_server c.args.name.now (g.Z.ZoneRecords.contents c.args.others.now)) c.args.name.now (g.Y.ZoneRecords.contents c.args.records.now) c.places-first.result.0 c.places-first.result.1 c.places-first.ensures
    c.find_other_within.result c.find_other_within.ensures
