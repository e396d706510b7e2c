use Rattle.rdata_values.proofs.DatesAt.{seconds_have_dates}
use Rattle.rdata_values.proofs.time.seconds_have_dates.Goals as goal

pub returns : goal.returns
returns c = seconds_have_dates
