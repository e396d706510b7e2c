use Rattle.std.proofs.Common.{◌≡◌, ◌≤◌, length, All}
use Rattle.zone_rules.specs.Above.{is_within}
use Rattle.zone_rules.proofs.names.are_within.Given as goal

abbrev pub invariant-loop-above : goal.invariant-loop-above
invariant-loop-above l = All (λ label. length label ≤ 63) l.above × (is_within l.above l.top ≡ is_within l.fn.labels l.top)

abbrev pub decreases-loop-above : goal.decreases-loop-above
decreases-loop-above l = length l.above
