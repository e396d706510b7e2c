use Rattle.zone_reader.proofs.EntryLaws.{entries_say_once, entries_say_taken}
use Rattle.zone_reader.proofs.header_laws.entries_have_one_meaning.Goals as goal

pub returns-clause-once : goal.returns-clause-once
returns-clause-once c = entries_say_once

pub returns-clause-taken : goal.returns-clause-taken
returns-clause-taken c = entries_say_taken
