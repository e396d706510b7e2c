use Rattle.dns_lexer.proofs.EntryLaws.{seen_stand}
use Rattle.dns_lexer.proofs.laws.seen_tokens_are_spelled.Goals as goal

pub returns : goal.returns
returns c = seen_stand
