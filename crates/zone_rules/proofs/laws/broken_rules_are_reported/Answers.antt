use Rattle.zone_rules.proofs.ToldRules.{broken_rules_are_reported}
use Rattle.zone_rules.proofs.laws.broken_rules_are_reported.Goals as goal

pub returns : goal.returns
returns g c = broken_rules_are_reported c.args.origin.now (g.Z.ZoneRecords.contents c.args.records.now) c.args.refused.now
