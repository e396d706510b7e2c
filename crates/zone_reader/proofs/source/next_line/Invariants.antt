use Rattle.std.proofs.Common.{◌≡◌, ◌-◌, drop, length}
use Rattle.std.specs.Io.BufRead.{drop_through}
use Rattle.zone_reader.proofs.source.next_line.Given as goal

abbrev pub invariant-loop-place : goal.invariant-loop-place
invariant-loop-place l = drop_through 10 (drop l.place l.octets) ≡ drop_through 10 (drop l.at l.octets)

abbrev pub decreases-loop-place : goal.decreases-loop-place
decreases-loop-place l = length l.octets - l.place
