use Rattle.dns_lexer.proofs.Complete.{one_way}
use Rattle.dns_lexer.proofs.laws.splits_one_way.Goals as goal

pub returns : goal.returns
returns c = one_way
