use Rattle.std.proofs.Common.{◌≡◌, false, take}
use Rattle.std.specs.List.{list_any}
use Rattle.zone_dnssec.specs.KeyRequests.{is_unpaired}
use Rattle.zone_dnssec.proofs.requests.has_unpaired.Given as goal

abbrev pub invariant-loop-place : goal.invariant-loop-place
invariant-loop-place g l =
    list_any (is_unpaired l.origin (g.Z.ZoneRecords.contents l.records)) (take l.place (g.Z.ZoneRecords.contents l.records)) ≡ false
