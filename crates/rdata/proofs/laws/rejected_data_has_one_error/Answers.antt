use Rattle.rdata.proofs.DataErrors.{data_one_error}
use Rattle.rdata.proofs.laws.rejected_data_has_one_error.Goals as goal

pub returns : goal.returns
returns c = data_one_error
