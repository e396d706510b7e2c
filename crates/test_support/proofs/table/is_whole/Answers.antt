use Rattle.std.proofs.Common.{arith, tests}
use Rattle.test_support.proofs.Ends.{whole_if_nothing, no_mark}
use Rattle.test_support.proofs.table.is_whole.Goals as goal

pub returns-in-Some : goal.returns-in-Some
returns-in-Some c = whole_if_nothing c.args.text.now (c.in-Some.field-0-0, c.in-Some.after) c.is_empty.result c.in-Some.ensures.cases c.is_empty.ensures

pub returns-in-None : goal.returns-in-None
returns-in-None c = (λ t. absurd (grind (arith, tests, t)), λ w. absurd (no_mark c.args.text.now c.in-None.ensures.cases w))
