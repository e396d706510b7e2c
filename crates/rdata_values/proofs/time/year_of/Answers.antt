use Rattle.std.proofs.Common.{arith, ◌-◌, ◌/◌}
use Rattle.rdata_values.proofs.Calendar.{first_of_year, days_of_years_le, days_of_years_ge, next_year}
use Rattle.rdata_values.proofs.time.year_of.Goals as goal

pub loop-year-init : goal.loop-year-init
loop-year-init c = let most = days_of_years_le (c.args.days / 366) in let first = first_of_year (c.args.days / 366) in (omega arith, omega (arith, most, first))

pub overflow_add-year-in-loop-year : goal.overflow_add-year-in-loop-year
overflow_add-year-in-loop-year c = let least = days_of_years_ge (c.loop-year.year - 1970) in omega (arith, least, c.loop-year.invariant, c.requires)

pub overflow_add-year-in-loop-year-2 : goal.overflow_add-year-in-loop-year-2
overflow_add-year-in-loop-year-2 c = let least = days_of_years_ge (c.loop-year.year - 1970) in omega (arith, least, c.loop-year.invariant, c.requires)

pub loop-year-smaller : goal.loop-year-smaller
loop-year-smaller c = let least = days_of_years_ge (c.loop-year.year - 1970) in omega (arith, least, c.loop-year.invariant, c.requires)

pub returns-clause-to : goal.returns-clause-to
returns-clause-to c = let least = days_of_years_ge (c.loop-year.year - 1970) in omega (arith, least, c.loop-year.invariant, c.requires)

pub returns-clause-within : goal.returns-clause-within
returns-clause-within c =
    let next = next_year c.loop-year.year c.loop-year.invariant.0 in
    omega (arith, next, c.loop-year.invariant, c.days_to_year.ensures, c.days_to_year-2.ensures, c.loop-year-test.false)
