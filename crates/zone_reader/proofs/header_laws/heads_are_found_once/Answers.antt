use Rattle.zone_reader.proofs.EntryLaws.{heads_found_once, words_found_once}
use Rattle.zone_reader.proofs.header_laws.heads_are_found_once.Goals as goal

pub returns-clause-heads : goal.returns-clause-heads
returns-clause-heads c = heads_found_once

pub returns-clause-words : goal.returns-clause-words
returns-clause-words c = words_found_once
