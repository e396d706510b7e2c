use Rattle.std.proofs.Common.{◌≡◌, false}
use Rattle.std.specs.List.{AllWithin}
use Rattle.zone_cuts.specs.Signers.{is_fitting_ds}
use Rattle.zone_cuts.proofs.signers.find_fitting.Given as goal

abbrev pub invariant-loop-place : goal.invariant-loop-place
invariant-loop-place g l = AllWithin (λ r. is_fitting_ds l.name (g.C.ZoneRecords.contents l.child) r ≡ false) (g.P.ZoneRecords.contents l.parent) l.first l.place
