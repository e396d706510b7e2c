use Rattle.std.proofs.Common.{◌≡◌, false}
use Rattle.std.specs.List.{AllWithin}
use Rattle.zone_dnssec.specs.OwnedRecords.{is_wanted_record}
use Rattle.zone_dnssec.proofs.owned.find_within.Given as goal

abbrev pub invariant-loop-place : goal.invariant-loop-place
invariant-loop-place g l = AllWithin (λ r. is_wanted_record l.wanted r ≡ false) (g.Z.ZoneRecords.contents l.records) l.first l.place
