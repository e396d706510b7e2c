use Rattle.std.proofs.Common.{◌≡◌, ◌≤◌, length, drop}
use Rattle.finding_formats.specs.Escape.{has_noncharacter}
use Rattle.finding_formats.proofs.escape.has_noncharacter.Given as goal

abbrev pub invariant-loop-at : goal.invariant-loop-at
invariant-loop-at l = record {
  within : l.at ≤ length l.octets;
  has : l.has_noncharacter ≡ has_noncharacter (drop l.at l.octets);
}

abbrev pub decreases-loop-at : goal.decreases-loop-at
decreases-loop-at l = l.at
