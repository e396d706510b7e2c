use Rattle.std.proofs.Common.{◌≡◌, take}
use Rattle.std.specs.List.{flat_map}
use Rattle.zone_dnssec.specs.SigningAlgorithms.{signers_by}
use Rattle.zone_dnssec.specs.ZoneViews.{zone_with}
use Rattle.zone_dnssec.proofs.algorithms.signers_of.Given as goal

abbrev pub invariant-loop-key : goal.invariant-loop-key
invariant-loop-key g l = l.signers.items ≡ flat_map (signers_by (zone_with l.origin (g.Z.ZoneRecords.contents l.records)) l.keys) (take l.key-index l.keys)
