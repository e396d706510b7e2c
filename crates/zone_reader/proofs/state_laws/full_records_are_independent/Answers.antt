use Rattle.zone_reader.proofs.FullRecords.{full_records_alone}
use Rattle.zone_reader.proofs.state_laws.full_records_are_independent.Goals as goal

pub returns : goal.returns
returns c = full_records_alone
