use Rattle.std.proofs.Common.{◌≡◌, false}
use Rattle.std.specs.List.{AllWithin}
use Rattle.zone_rules.proofs.ServiceLoops.{is_of_type}
use Rattle.zone_rules.proofs.services.first_service.Given as goal

abbrev pub invariant-loop-place : goal.invariant-loop-place
invariant-loop-place g l = AllWithin (λ r. is_of_type l.rtype r ≡ false) (g.Z.ZoneRecords.contents l.records) l.first l.place
