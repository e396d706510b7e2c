use Rattle.zone_dnssec.specs.ChainFaults.{AreFaultsBefore}
use Rattle.zone_dnssec.specs.ZoneViews.{zone_with}
use Rattle.zone_dnssec.proofs.faults.faults_of_chains.Given as goal

abbrev pub invariant-loop-place : goal.invariant-loop-place
invariant-loop-place g l = AreFaultsBefore (zone_with l.origin (g.Z.ZoneRecords.contents l.records)) l.place l.faults.items
