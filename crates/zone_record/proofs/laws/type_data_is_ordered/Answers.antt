use Rattle.zone_record.proofs.SameForms.{data_total}
use Rattle.zone_record.proofs.laws.type_data_is_ordered.Goals as goal

pub returns : goal.returns
returns c = data_total
