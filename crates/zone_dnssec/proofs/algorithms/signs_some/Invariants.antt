use Rattle.std.proofs.Common.{◌≡◌, false, take}
use Rattle.std.specs.List.{list_any}
use Rattle.zone_dnssec.specs.SigningAlgorithms.{signs_set}
use Rattle.zone_dnssec.specs.ZoneViews.{zone_with}
use Rattle.zone_dnssec.proofs.algorithms.signs_some.Given as goal

abbrev pub invariant-loop-place : goal.invariant-loop-place
invariant-loop-place g l =
    list_any (signs_set l.keys (zone_with l.origin (g.Z.ZoneRecords.contents l.records)) l.algorithm l.is_of_keys) (take l.place (g.Z.ZoneRecords.contents l.records)) ≡ false
