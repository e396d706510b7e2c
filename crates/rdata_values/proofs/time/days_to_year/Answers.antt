use Rattle.std.proofs.Common.{arith, ◌-◌}
use Rattle.rdata_values.proofs.Calendar.{days_closed}
use Rattle.rdata_values.proofs.time.days_to_year.Goals as goal

pub returns : goal.returns
returns c = let closed = days_closed (c.args.year - 1970) in let is = c.from-last.ensures in omega (arith, closed, is, c.requires)
