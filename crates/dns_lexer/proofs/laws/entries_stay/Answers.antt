use Rattle.dns_lexer.proofs.Blocks.{entries_stay}
use Rattle.dns_lexer.proofs.laws.entries_stay.Goals as goal

pub returns : goal.returns
returns c = entries_stay
