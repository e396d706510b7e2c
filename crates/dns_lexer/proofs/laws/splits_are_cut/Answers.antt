use Rattle.dns_lexer.proofs.Joins.{split_cut}
use Rattle.dns_lexer.proofs.laws.splits_are_cut.Goals as goal

pub returns : goal.returns
returns c = split_cut
