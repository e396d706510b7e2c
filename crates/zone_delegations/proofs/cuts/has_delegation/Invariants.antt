use Rattle.std.proofs.Common.{◌≡◌, false}
use Rattle.std.specs.List.{AllWithin}
use Rattle.zone_delegations.specs.Hidden.{is_delegating}
use Rattle.zone_delegations.proofs.cuts.has_delegation.Given as goal

abbrev pub invariant-loop-place : goal.invariant-loop-place
invariant-loop-place g l = AllWithin (λ r. is_delegating l.origin r ≡ false) (g.Z.ZoneRecords.contents l.records) 0 l.place
