use Rattle.dns_lexer.proofs.Entries.{splits_into_tokens, splits_into_some}
use Rattle.dns_lexer.proofs.laws.entries_are_tokens.Goals as goal

pub returns-clause-tokens : goal.returns-clause-tokens
returns-clause-tokens c = splits_into_tokens

pub returns-clause-some : goal.returns-clause-some
returns-clause-some c = splits_into_some
