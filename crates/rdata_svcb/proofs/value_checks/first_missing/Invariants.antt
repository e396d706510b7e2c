use Rattle.std.proofs.Common.{◌≡◌, length}
use Rattle.rdata_svcb.specs.Params.{params_of}
use Rattle.rdata_svcb.specs.Values.{first_missing}
use Rattle.rdata_svcb.proofs.value_checks.first_missing.Given as goal

abbrev pub invariant-loop-rest : goal.invariant-loop-rest
invariant-loop-rest l = first_missing (params_of l.params) l.rest ≡ first_missing (params_of l.params) l.octets

abbrev pub decreases-loop-rest : goal.decreases-loop-rest
decreases-loop-rest l = length l.rest
