use Rattle.std.proofs.Common.{◌≤◌}
use Rattle.zone_generate.proofs.DigitSteps.{DigitsPassed}
use Rattle.zone_generate.proofs.number.hex_len.Given as goal

abbrev pub invariant-loop-left : goal.invariant-loop-left
invariant-loop-left l = record {
  most : l.left ≤ 64;
  passed : DigitsPassed l.number l.left l.rest;
}

abbrev pub decreases-loop-left : goal.decreases-loop-left
decreases-loop-left l = l.left
