use Rattle.zone_dnssec.specs.ChainFaults.{AreNoFaults}
use Rattle.zone_dnssec.proofs.faults.no_faults_each.Given as goal

abbrev pub invariant-loop-place : goal.invariant-loop-place
invariant-loop-place g l = AreNoFaults l._place l.faults.items
