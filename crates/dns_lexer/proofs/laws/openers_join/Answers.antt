use Rattle.dns_lexer.proofs.FaultJoins.{opener_joined}
use Rattle.dns_lexer.proofs.laws.openers_join.Goals as goal

pub returns : goal.returns
returns c = opener_joined
