use Rattle.std.proofs.Common.{◌≡◌, ◌≤◌, take}
use Rattle.zone_format.specs.Place.{feeds}
use Rattle.zone_format.proofs.place.count_few_feeds.Given as goal

abbrev pub invariant-loop-octet : goal.invariant-loop-octet
invariant-loop-octet l = record {
  lines : l.lines ≡ feeds (take l.octet-index l.octets);
  few : l.lines ≤ l.octet-index;
}
