use Rattle.zone_dnssec.proofs.OwnedRecords.{find_bound, find_is}
use Rattle.zone_dnssec.proofs.owned.find_at.Goals as goal

pub returns-clause-bound : goal.returns-clause-bound
returns-clause-bound g c =
    find_bound c.args.wanted.now c.args.name.now (g.Z.ZoneRecords.contents c.args.records.now) c.places-first.result.0 c.places-first.result.1 c.places-first.ensures c.find_within.result c.find_within.ensures

pub returns-clause-value : goal.returns-clause-value
returns-clause-value g c =
    find_is c.args.wanted.now c.args.name.now (g.Z.ZoneRecords.contents c.args.records.now) c.places-first.result.0 c.places-first.result.1 c.places-first.ensures c.find_within.result c.find_within.ensures
