use Rattle.std.proofs.Common.{length}
use Rattle.rdata_values.proofs.Faults.{ChecksBlocks}
use Rattle.rdata_values.proofs.bitmap.check_bitmap.Given as goal

abbrev pub invariant-loop-rest : goal.invariant-loop-rest
invariant-loop-rest l = ChecksBlocks l.octets l.rest l.next

abbrev pub decreases-loop-rest : goal.decreases-loop-rest
decreases-loop-rest l = length l.rest
