use Rattle.std.proofs.Common.{◌≡◌, ◌≤◌, map, take}
use Rattle.zone_contents.specs.Digests.{data_at}
use Rattle.zone_contents.proofs.digests.count_alike.Given as goal
use Rattle.zone_contents.specs.Checks.{alike_count}

abbrev pub invariant-loop-place : goal.invariant-loop-place
invariant-loop-place g l = (l.count ≡ alike_count l.zonemd (map (data_at l.zone) (take l.place-index l.places))) × (l.count ≤ l.place-index)
