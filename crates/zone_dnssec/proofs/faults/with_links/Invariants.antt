use Rattle.std.proofs.Common.{take}
use Rattle.zone_dnssec.specs.ChainFaults.{link_faults, AddsFaults}
use Rattle.zone_dnssec.specs.UnmatchedLinks.{HaveMarks}
use Rattle.zone_dnssec.specs.ZoneViews.{zone_with}
use Rattle.zone_dnssec.proofs.faults.with_links.Given as goal

abbrev pub invariant-loop-place : goal.invariant-loop-place
invariant-loop-place g l =
    AddsFaults (link_faults (zone_with l.origin (g.Z.ZoneRecords.contents l.records)) l.chain) l.others l.place l.faults.items
    × HaveMarks (zone_with l.origin (g.Z.ZoneRecords.contents l.records)) l.chain (take l.place (g.Z.ZoneRecords.contents l.records)) l.marks
