use Rattle.zonetext_lib.proofs.Passing.{Parted}
use Rattle.zonetext_lib.proofs.writer.until_fault.Given as goal

abbrev pub invariant-loop-piece : goal.invariant-loop-piece
invariant-loop-piece l = Parted l.initial.piece-iterator l.piece-iterator l.last
