use Rattle.zone_reader.proofs.GivenEntries.{entry_given, fault_given}
use Rattle.zone_reader.proofs.source.entries_are_returned.Goals as goal

pub returns-clause-entry : goal.returns-clause-entry
returns-clause-entry c = entry_given

pub returns-clause-fault : goal.returns-clause-fault
returns-clause-fault c = fault_given
