use Rattle.dns_lexer.proofs.SettledOnce.{read_once}
use Rattle.dns_lexer.proofs.laws.texts_are_read_one_way.Goals as goal

pub returns : goal.returns
returns c = read_once
