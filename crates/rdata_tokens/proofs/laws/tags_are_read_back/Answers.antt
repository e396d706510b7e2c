use Rattle.rdata_tokens.proofs.FormLaws.{tags_in_front}
use Rattle.rdata_tokens.proofs.laws.tags_are_read_back.Goals as goal

pub returns-clause-front : goal.returns-clause-front
returns-clause-front c = tags_in_front
