use Rattle.std.proofs.Common.{length}
use Rattle.rdata_svcb.specs.Params.{params_of}
use Rattle.rdata_svcb.specs.Values.{AreKeys}
use Rattle.rdata_svcb.proofs.Checking.{Exactly}
use Rattle.rdata_svcb.proofs.value_checks.are_keys.Given as goal

abbrev pub invariant-loop-rest : goal.invariant-loop-rest
invariant-loop-rest l = Exactly (AreKeys (params_of l.params) l.above l.rest) (AreKeys (params_of l.params) 0 l.octets)

abbrev pub decreases-loop-rest : goal.decreases-loop-rest
decreases-loop-rest l = length l.rest
