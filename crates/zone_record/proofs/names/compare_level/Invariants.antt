use Rattle.std.proofs.Common.{length}
use Rattle.zone_record.proofs.NameWalks.{LevelWalk}
use Rattle.zone_record.proofs.names.compare_level.Given as goal

abbrev pub invariant-loop-left_rest : goal.invariant-loop-left_rest
invariant-loop-left_rest l = LevelWalk l.fn.left l.fn.right l.fn.otherwise l.left_rest l.right_rest l.order

abbrev pub decreases-loop-left_rest : goal.decreases-loop-left_rest
decreases-loop-left_rest l = length l.left_rest
