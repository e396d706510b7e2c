use Rattle.rdata_tokens.proofs.FormLaws.{strings_spelled, strings_in_front}
use Rattle.rdata_tokens.proofs.laws.strings_are_read_back.Goals as goal

pub returns-clause-spelled : goal.returns-clause-spelled
returns-clause-spelled c = strings_spelled

pub returns-clause-front : goal.returns-clause-front
returns-clause-front c = strings_in_front
