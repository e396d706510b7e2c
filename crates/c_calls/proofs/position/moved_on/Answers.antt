use Rattle.std.proofs.Common.{arith}
use Rattle.c_calls.proofs.Moves.{moved}
use Rattle.c_calls.proofs.position.moved_on.Goals as goal

pub returns-clause-is : goal.returns-clause-is
returns-clause-is c = λ p. moved c.args.text.now c.args.from.offset c.args.offset _ _ _ _ _ _ c.requires.ahead c.requires.within (omega arith)
    c.line_and_column_of_octets-passed.ensures c.saturating_add.ensures c.column_after.ensures.same c.column_after.ensures.next p
