use Rattle.dns_lexer.proofs.Entries.{given_spelled}
use Rattle.dns_lexer.proofs.laws.pieces_are_spelled.Goals as goal

pub returns : goal.returns
returns c = given_spelled
