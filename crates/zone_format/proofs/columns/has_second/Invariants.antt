use Rattle.std.proofs.Common.{◌≡◌, ◌≤◌, ◌-◌, drop, length}
use Rattle.zone_format.specs.Columns.{has_second}
use Rattle.zone_format.proofs.columns.has_second.Given as goal

abbrev pub invariant-loop-place : goal.invariant-loop-place
invariant-loop-place l = record {
  some : 1 ≤ l.place;
  same : has_second l.comment ≡ has_second (drop (l.place - 1) l.comment);
}

abbrev pub decreases-loop-place : goal.decreases-loop-place
decreases-loop-place l = length l.comment - l.place
