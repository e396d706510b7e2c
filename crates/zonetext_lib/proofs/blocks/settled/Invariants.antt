use Rattle.zonetext_lib.proofs.Passing.{Walked, EndBefore}
use Rattle.zonetext_lib.proofs.blocks.settled.Given as goal

abbrev pub invariant-loop-piece : goal.invariant-loop-piece
invariant-loop-piece l = record {
  walked : Walked l.initial.piece-iterator l.piece-iterator l.last;
  before : EndBefore l.initial.piece-iterator l.piece-iterator l.before;
}
