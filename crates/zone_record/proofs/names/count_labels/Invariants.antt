use Rattle.std.proofs.Common.{length}
use Rattle.zone_record.proofs.NameWalks.{Walked}
use Rattle.zone_record.proofs.names.count_labels.Given as goal

abbrev pub invariant-loop-rest : goal.invariant-loop-rest
invariant-loop-rest l = Walked l.octets l.rest l.count

abbrev pub decreases-loop-rest : goal.decreases-loop-rest
decreases-loop-rest l = length l.rest
