use Rattle.zone_reader.proofs.EntryQuiet.{entries_have_no_faults, faults_are_told}
use Rattle.zone_reader.proofs.text_laws.faults_are_known_by_their_kind.Goals as goal

pub returns-clause-entries : goal.returns-clause-entries
returns-clause-entries c = entries_have_no_faults

pub returns-clause-calls : goal.returns-clause-calls
returns-clause-calls c = faults_are_told
