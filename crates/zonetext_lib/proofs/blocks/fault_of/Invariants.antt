use Rattle.zonetext_lib.proofs.Passing.{Passed}
use Rattle.zonetext_lib.proofs.blocks.fault_of.Given as goal

abbrev pub invariant-loop-piece : goal.invariant-loop-piece
invariant-loop-piece l = Passed l.initial.piece-iterator l.piece-iterator
