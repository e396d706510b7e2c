use Rattle.zone_rules.proofs.CnameTargets.{owner_is}
use Rattle.zone_dnssec.proofs.owned.is_owner.Goals as goal

pub returns : goal.returns
returns g c = owner_is c.args.name.now (g.Z.ZoneRecords.contents c.args.records.now) c.places-first.result.0 c.places-first.result.1 c.places-first.ensures
