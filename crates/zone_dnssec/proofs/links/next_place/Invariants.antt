use Rattle.std.proofs.Common.{◌≡◌, false}
use Rattle.std.specs.List.{AllWithin}
use Rattle.zone_dnssec.specs.NsecChain.{is_in_chain}
use Rattle.zone_dnssec.proofs.links.next_place.Given as goal

abbrev pub invariant-loop-place : goal.invariant-loop-place
invariant-loop-place g l = AllWithin (λ r. is_in_chain l.origin (g.Z.ZoneRecords.contents l.records) r ≡ false) (g.Z.ZoneRecords.contents l.records) l.from l.place
