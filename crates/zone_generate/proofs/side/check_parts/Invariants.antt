use Rattle.std.proofs.Common.{◌-◌, ◌≤◌, length}
use Rattle.zone_generate.proofs.PartSteps.{PartsLeft}
use Rattle.zone_generate.proofs.side.check_parts.Given as goal

abbrev pub invariant-loop-at : goal.invariant-loop-at
invariant-loop-at l = record {
  within : l.at ≤ length l.text;
  left : PartsLeft l.last l.is_quoted l.has_offset l.text l.at;
}

abbrev pub decreases-loop-at : goal.decreases-loop-at
decreases-loop-at l = length l.text - l.at
