use Rattle.std.proofs.Common.{◌≡◌, ◌≤◌, length, drop}
use Rattle.finding_formats.specs.Shown.{has_c1, ends_c1}
use Rattle.finding_formats.proofs.shown.has_c1.Given as goal

abbrev pub invariant-loop-at : goal.invariant-loop-at
invariant-loop-at l = record {
  within : l.at ≤ length l.octets;
  has : l.has_c1 ≡ has_c1 (drop l.at l.octets);
  ends : l.ends_c1 ≡ ends_c1 (drop l.at l.octets);
}

abbrev pub decreases-loop-at : goal.decreases-loop-at
decreases-loop-at l = l.at
