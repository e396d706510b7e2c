use Rattle.rdata_tokens.proofs.NameFronts.{names_in_front}
use Rattle.rdata_tokens.proofs.NameLaws.{names_spelled}
use Rattle.rdata_tokens.proofs.NameWords.{name_is_word}
use Rattle.rdata_tokens.proofs.laws.names_are_read_back.Goals as goal

pub returns-clause-spelled : goal.returns-clause-spelled
returns-clause-spelled c = names_spelled

pub returns-clause-front : goal.returns-clause-front
returns-clause-front c = names_in_front

pub returns-clause-word : goal.returns-clause-word
returns-clause-word c = name_is_word
