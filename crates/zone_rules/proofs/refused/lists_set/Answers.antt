use Rattle.std.proofs.Common.{ap, sym}
use Rattle.zone_rules.specs.Present.{is_listed}
use Rattle.zone_rules.proofs.refused.lists_set.Goals as goal

pub returns-then-is_empty : goal.returns-then-is_empty
returns-then-is_empty c = sym (ap (is_listed c.args.rtype c.args.name.now) (c.is_empty.ensures c.if-is_empty.true))
