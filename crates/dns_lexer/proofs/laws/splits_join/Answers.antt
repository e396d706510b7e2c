use Rattle.dns_lexer.proofs.Joins.{split_joined}
use Rattle.dns_lexer.proofs.laws.splits_join.Goals as goal

pub returns : goal.returns
returns c = split_joined
