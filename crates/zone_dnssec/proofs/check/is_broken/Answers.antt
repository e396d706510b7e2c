use Rattle.std.proofs.Common.{◌∙◌}
use Rattle.zone_dnssec.proofs.SecurityRules.{security_broken}
use Rattle.zone_dnssec.proofs.check.is_broken.Goals as goal

pub returns : goal.returns
returns g c = c.breaks_rule.ensures ∙ security_broken c.args.rule c.args.origin.now (g.Z.ZoneRecords.contents c.args.records.now) c.args.times c.args.subject.now c.requires.subject
