use Rattle.rdata.proofs.PrintedWords.{data_words, data_tokens_well}
use Rattle.rdata.proofs.print_laws.printed_data_is_tokens.Goals as goal

pub returns-clause-words : goal.returns-clause-words
returns-clause-words c = data_words

pub returns-clause-tokens : goal.returns-clause-tokens
returns-clause-tokens c = data_tokens_well
