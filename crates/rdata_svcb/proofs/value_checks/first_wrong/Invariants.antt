use Rattle.std.proofs.Common.{length}
use Rattle.rdata_svcb.specs.Params.{params_of}
use Rattle.rdata_svcb.proofs.ParamLists.{RightSoFar}
use Rattle.rdata_svcb.proofs.value_checks.first_wrong.Given as goal

abbrev pub invariant-loop-front : goal.invariant-loop-front
invariant-loop-front l = RightSoFar (params_of l.params) (params_of l.params) l.rest

abbrev pub decreases-loop-front : goal.decreases-loop-front
decreases-loop-front l = length l.rest
