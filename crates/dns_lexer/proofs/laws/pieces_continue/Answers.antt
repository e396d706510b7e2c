use Rattle.dns_lexer.proofs.PieceJoins.{pieces_continue}
use Rattle.dns_lexer.proofs.laws.pieces_continue.Goals as goal

pub returns : goal.returns
returns c = pieces_continue
