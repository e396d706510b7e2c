use Rattle.std.proofs.Common.{◌≡◌, ◌≤◌, ◌-◌, length, take}
use Rattle.zone_format.specs.Place.{feeds}
use Rattle.zone_format.proofs.place.count_feeds.Given as goal

abbrev pub invariant-loop-place : goal.invariant-loop-place
invariant-loop-place l = record {
  within : l.place ≤ length l.octets;
  lines : l.lines ≡ feeds (take l.place l.octets);
  few : l.lines ≤ l.place;
}

abbrev pub decreases-loop-place : goal.decreases-loop-place
decreases-loop-place l = length l.octets - l.place
