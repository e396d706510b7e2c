use Rattle.dns_lexer.proofs.EntryLaws.{seen_once}
use Rattle.dns_lexer.proofs.laws.tokens_are_seen_one_way.Goals as goal

pub returns : goal.returns
returns c = seen_once
