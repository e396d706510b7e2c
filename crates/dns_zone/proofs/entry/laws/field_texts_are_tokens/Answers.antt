use Rattle.dns_zone.proofs.EntryWords.{field_token}
use Rattle.dns_zone.proofs.entry.laws.field_texts_are_tokens.Goals as goal

pub returns : goal.returns
returns c = field_token
