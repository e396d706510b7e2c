use Rattle.std.proofs.Common.{◌≡◌, ◌-◌, drop, length}
use Rattle.zone_check.specs.Names.{ends_in_dot}
use Rattle.zone_check.proofs.names.ends_in_dot.Given as goal

abbrev pub invariant-loop-at : goal.invariant-loop-at
invariant-loop-at l = ends_in_dot l.text ≡ ends_in_dot (drop l.at l.text)

abbrev pub decreases-loop-at : goal.decreases-loop-at
decreases-loop-at l = length l.text - l.at
