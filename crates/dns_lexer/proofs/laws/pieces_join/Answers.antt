use Rattle.dns_lexer.proofs.PieceJoins.{pieces_joined}
use Rattle.dns_lexer.proofs.laws.pieces_join.Goals as goal

pub returns : goal.returns
returns c = pieces_joined
