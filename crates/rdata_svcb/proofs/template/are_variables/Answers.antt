use Rattle.std.proofs.Common.{sym}
use Rattle.rdata_svcb.proofs.Templates.{all_more, all_fails}
use Rattle.rdata_svcb.proofs.template.are_variables.Goals as goal

pub loop-left-preserved : goal.loop-left-preserved
loop-left-preserved c = all_more _ _ _ _ _ c.split_first-split.ensures.split (rw c.in-Some.is at c.loop-left.invariant) (sym c.if-not-is_variable.ensures)

pub returns-then-not-is_variable : goal.returns-then-not-is_variable
returns-then-not-is_variable c = all_fails _ _ _ _ _ c.split_first-split.ensures.split (rw c.in-Some.is at c.loop-left.invariant) (sym c.if-not-is_variable.ensures)
