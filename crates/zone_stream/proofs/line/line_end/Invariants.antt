use Rattle.std.proofs.Common.{◌≡◌, ◌≤◌, ◌-◌, ℕ, List, ◌++◌, drop, length}
use Rattle.std.specs.Io.BufRead.{drop_through}
use Rattle.zone_stream.proofs.line.line_end.Given as goal

abbrev pub invariant-loop-at : goal.invariant-loop-at
invariant-loop-at l = record {
  within : l.at ≤ length l.octets;
  same : (more : List ℕ) → drop_through 10 (l.octets ++ more) ≡ drop_through 10 (drop l.at l.octets ++ more);
}

abbrev pub decreases-loop-at : goal.decreases-loop-at
decreases-loop-at l = length l.octets - l.at
