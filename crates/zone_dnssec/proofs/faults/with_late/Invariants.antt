use Rattle.zone_dnssec.specs.ChainFaults.{late_faults, AddsFaults}
use Rattle.zone_dnssec.specs.ZoneViews.{zone_with}
use Rattle.zone_dnssec.proofs.faults.with_late.Given as goal

abbrev pub invariant-loop-place : goal.invariant-loop-place
invariant-loop-place g l = AddsFaults (late_faults (zone_with l.origin (g.Z.ZoneRecords.contents l.records)) l.chain) l.others l.place l.faults.items
