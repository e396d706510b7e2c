use Rattle.std.proofs.Common.{◌∙◌}
use Rattle.zone_rules.proofs.Subjects.{broken_at}
use Rattle.zone_rules.proofs.check.is_broken.Goals as goal

pub returns : goal.returns
returns g c = c.breaks_rule.ensures ∙ broken_at c.args.rule c.args.origin.now (g.Z.ZoneRecords.contents c.args.records.now) c.args.refused.now c.args.subject.now c.requires
