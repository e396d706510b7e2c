use Rattle.zone_reader.proofs.WholeRecords.{whole_records_alone}
use Rattle.zone_reader.proofs.state_laws.whole_records_are_independent.Goals as goal

pub returns : goal.returns
returns c = whole_records_alone
