use Rattle.std.proofs.Common.{rules, arith}
use Rattle.rdata_values.proofs.DatesAt.{is_date_at}
use Rattle.rdata_values.proofs.time.Date.from_seconds.Goals as goal

pub returns-clause-date : goal.returns-clause-date
returns-clause-date c = is_date_at c.args.seconds _ (omega arith) (search rules) (omega (arith, c.year_of-year.ensures.same, c.month_of-month.ensures.same))
