use Rattle.std.proofs.Common.{arith, ◌-◌}
use Rattle.rdata_values.proofs.Calendar.{days_of_years_le, before_month_le}
use Rattle.rdata_values.proofs.time.Date.seconds.Goals as goal

pub overflow_add-days : goal.overflow_add-days
overflow_add-days c =
    let years = days_of_years_le (c.args.self.now.year - 1970) in
    let months = before_month_le c.args.self.now.year c.args.self.now.month in
    omega (arith, years, months, c.requires.four_digits, c.days_to_year.ensures, c.days_to_month.ensures)

pub overflow_add-days-2 : goal.overflow_add-days-2
overflow_add-days-2 c =
    let years = days_of_years_le (c.args.self.now.year - 1970) in
    let months = before_month_le c.args.self.now.year c.args.self.now.month in
    omega (arith, years, months, c.requires.four_digits, c.days_to_year.ensures, c.days_to_month.ensures)
