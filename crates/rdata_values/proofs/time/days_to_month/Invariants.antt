use Rattle.std.proofs.Common.{◌≡◌}
use Rattle.rdata_values.specs.Time.{days_before_month}
use Rattle.rdata_values.proofs.time.days_to_month.Given as goal

abbrev pub invariant-loop-earlier : goal.invariant-loop-earlier
invariant-loop-earlier l = l.days ≡ days_before_month l.year l.earlier
