use Rattle.dns_lexer.proofs.PieceSplit.{pieces_split}
use Rattle.dns_lexer.proofs.laws.pieces_are_tokens.Goals as goal

pub returns : goal.returns
returns c = pieces_split
