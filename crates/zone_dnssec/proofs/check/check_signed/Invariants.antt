use Rattle.std.proofs.Common.{◌≡◌}
use Rattle.std.specs.List.{flat_map, range_with_len}
use Rattle.zone_dnssec.specs.SecurityFindings.{insecure_at}
use Rattle.zone_dnssec.specs.Subjects.{IsKnown}
use Rattle.zone_dnssec.specs.ZoneViews.{zone_with}
use Rattle.zone_dnssec.proofs.check.check_signed.Given as goal

abbrev pub invariant-loop-place : goal.invariant-loop-place
invariant-loop-place g l =
    (l.found.items ≡ flat_map (insecure_at (zone_with l.apex (g.Z.ZoneRecords.contents l.records)) l.times) (range_with_len 0 l.place))
    × IsKnown l.apex (g.Z.ZoneRecords.contents l.records) l.last
