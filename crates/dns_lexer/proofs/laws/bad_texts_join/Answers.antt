use Rattle.dns_lexer.proofs.FaultJoins.{bad_joined}
use Rattle.dns_lexer.proofs.laws.bad_texts_join.Goals as goal

pub returns : goal.returns
returns c = bad_joined
