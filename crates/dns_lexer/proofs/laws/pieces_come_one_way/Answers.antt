use Rattle.dns_lexer.proofs.PieceSplit.{pieces_one_way}
use Rattle.dns_lexer.proofs.laws.pieces_come_one_way.Goals as goal

pub returns : goal.returns
returns c = pieces_one_way
