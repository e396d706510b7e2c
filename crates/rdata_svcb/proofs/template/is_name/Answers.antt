use Rattle.std.proofs.Common.{sym}
use Rattle.rdata_svcb.proofs.Templates.{all_more, all_fails}
use Rattle.rdata_svcb.proofs.template.is_name.Goals as goal

pub loop-left-preserved : goal.loop-left-preserved
loop-left-preserved c = all_more _ _ _ _ _ c.split_first-split.ensures.split (rw c.in-Some.is at c.loop-left.invariant) (sym c.if-not-are_some_variable_octets.ensures)

pub returns-then-not-are_some_variable_octets : goal.returns-then-not-are_some_variable_octets
returns-then-not-are_some_variable_octets c = all_fails _ _ _ _ _ c.split_first-split.ensures.split (rw c.in-Some.is at c.loop-left.invariant) (sym c.if-not-are_some_variable_octets.ensures)
