use Rattle.dns_lexer.proofs.PieceSplit.{split_pieces}
use Rattle.dns_lexer.proofs.laws.splits_have_pieces.Goals as goal

pub returns : goal.returns
returns c = split_pieces
