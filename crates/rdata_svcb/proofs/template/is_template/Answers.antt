use Rattle.std.proofs.Common.{sym}
use Rattle.rdata_svcb.proofs.Templates.{both_fails}
use Rattle.rdata_svcb.proofs.template.is_template.Goals as goal

pub returns-then-not-begins_expression : goal.returns-then-not-begins_expression
returns-then-not-begins_expression c = both_fails _ _ _ _ _ _ _ c.split_first-split.ensures.split (rw c.in-Some.is at c.loop-left.invariant) (sym c.if-not-begins_expression.ensures)
