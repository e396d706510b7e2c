use Rattle.std.proofs.Common.{◌≤◌, ◌-◌}
use Rattle.rdata_values.specs.Time.{days_before_year}
use Rattle.rdata_values.proofs.time.year_of.Given as goal

abbrev pub invariant-loop-year : goal.invariant-loop-year
invariant-loop-year l = (1970 ≤ l.year) × (days_before_year l.year ≤ l.days)

abbrev pub decreases-loop-year : goal.decreases-loop-year
decreases-loop-year l = 3000 - l.year
