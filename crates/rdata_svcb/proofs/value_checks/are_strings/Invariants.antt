use Rattle.std.proofs.Common.{length}
use Rattle.rdata_svcb.specs.Values.{AreWireStrings}
use Rattle.rdata_svcb.proofs.Checking.{Exactly}
use Rattle.rdata_svcb.proofs.value_checks.are_strings.Given as goal

abbrev pub invariant-loop-rest : goal.invariant-loop-rest
invariant-loop-rest l = Exactly (AreWireStrings l.rest) (AreWireStrings l.octets)

abbrev pub decreases-loop-rest : goal.decreases-loop-rest
decreases-loop-rest l = length l.rest
