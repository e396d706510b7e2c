use Rattle.std.proofs.Common.{length}
use Rattle.rdata_svcb.proofs.ParamLists.{ChecksParams}
use Rattle.rdata_svcb.proofs.params.check_form.Given as goal

abbrev pub invariant-loop-rest : goal.invariant-loop-rest
invariant-loop-rest l = ChecksParams l.octets l.rest l.next

abbrev pub decreases-loop-rest : goal.decreases-loop-rest
decreases-loop-rest l = length l.rest
