use Rattle.rdata_svcb.proofs.Reading.{same_values, in_order}
use Rattle.rdata_svcb.proofs.list_laws.parameters_are_determined_by_their_octets.Goals as goal

pub returns : goal.returns
returns c = record { values = same_values; order = in_order }
