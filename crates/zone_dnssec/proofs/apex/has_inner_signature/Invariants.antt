use Rattle.std.proofs.Common.{◌≡◌, false, take}
use Rattle.std.specs.List.{list_any}
use Rattle.zone_dnssec.specs.SignedApex.{is_inner_signature}
use Rattle.zone_dnssec.proofs.apex.has_inner_signature.Given as goal

abbrev pub invariant-loop-place : goal.invariant-loop-place
invariant-loop-place g l =
    let records = g.Z.ZoneRecords.contents l.records in
    list_any (is_inner_signature l.origin records) (take l.place records) ≡ false
