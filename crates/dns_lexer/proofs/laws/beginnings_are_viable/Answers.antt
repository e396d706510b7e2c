use Rattle.dns_lexer.proofs.Viable.{begins_viable}
use Rattle.dns_lexer.proofs.laws.beginnings_are_viable.Goals as goal

pub returns : goal.returns
returns c = begins_viable
