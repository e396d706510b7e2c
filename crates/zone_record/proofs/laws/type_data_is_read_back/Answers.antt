use Rattle.zone_record.proofs.DataBack.{type_data_back}
use Rattle.zone_record.proofs.laws.type_data_is_read_back.Goals as goal

pub returns : goal.returns
returns c = type_data_back
