use Rattle.std.proofs.Common.{◌≡◌, false}
use Rattle.std.specs.List.{AllWithin}
use Rattle.zone_cuts.specs.OwnRecords.{is_sought}
use Rattle.zone_cuts.proofs.owned.find_sought.Given as goal

abbrev pub invariant-loop-place : goal.invariant-loop-place
invariant-loop-place g l = AllWithin (λ r. is_sought l.sought r ≡ false) (g.Z.ZoneRecords.contents l.records) l.first l.place
