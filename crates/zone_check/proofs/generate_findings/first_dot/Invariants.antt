use Rattle.std.proofs.Common.{◌-◌, ◌≤◌, length}
use Rattle.zone_check.proofs.GenerateSteps.{DotLeft}
use Rattle.zone_check.proofs.generate_findings.first_dot.Given as goal

abbrev pub invariant-loop-at : goal.invariant-loop-at
invariant-loop-at l = record {
  within : l.at ≤ length l.text;
  few : l.blanks ≤ l.at;
  left : DotLeft l.range.last l.range.first l.is_quoted l.has_offset l.text l.at l.blanks;
}

abbrev pub decreases-loop-at : goal.decreases-loop-at
decreases-loop-at l = length l.text - l.at
