use Rattle.dns_lexer.proofs.Positions.{none_before}
use Rattle.c_calls.proofs.position.moved.Goals as goal

pub returns-then-offset-from-clause-on : goal.returns-then-offset-from-clause-on
returns-then-offset-from-clause-on c = λ _. c.moved_on.ensures.is none_before

pub returns-then-offset-from-clause-back : goal.returns-then-offset-from-clause-back
returns-then-offset-from-clause-back c = λ _. c.moved_on.ensures.is none_before
