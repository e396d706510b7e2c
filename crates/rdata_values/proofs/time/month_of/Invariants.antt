use Rattle.std.proofs.Common.{◌≡◌, ◌≤◌, ◌+◌, ◌-◌}
use Rattle.rdata_values.specs.Time.{days_before_month}
use Rattle.rdata_values.proofs.time.month_of.Given as goal

abbrev pub invariant-loop-rest : goal.invariant-loop-rest
invariant-loop-rest l = (1 ≤ l.month) × (l.month ≤ 12) × (days_before_month l.year l.month + l.rest ≡ l.days)

abbrev pub decreases-loop-rest : goal.decreases-loop-rest
decreases-loop-rest l = 13 - l.month
