use Rattle.rdata_values.proofs.DateLaws.{dates_are_kind}
use Rattle.rdata_values.proofs.time.times_are_read_back.Goals as goal

pub returns : goal.returns
returns c = dates_are_kind
