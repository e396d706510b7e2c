use Rattle.dns_lexer.proofs.EntryLaws.{octet_entries, text_entries}
use Rattle.dns_lexer.proofs.laws.seen_tokens_are_entries.Goals as goal

pub returns-clause-octets : goal.returns-clause-octets
returns-clause-octets c = octet_entries

pub returns-clause-text : goal.returns-clause-text
returns-clause-text c = text_entries
