use Rattle.rdata_values.proofs.ReadBack.{numbers_back}
use Rattle.rdata_values.proofs.numbers.numbers_are_read_back.Goals as goal

pub returns : goal.returns
returns c = numbers_back
