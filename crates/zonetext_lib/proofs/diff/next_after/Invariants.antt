use Rattle.std.proofs.Common.{length}
use Rattle.std.specs.Prelude.{IfSome}
use Rattle.zonetext_lib.specs.Compare.{CanCut}
use Rattle.zonetext_lib.proofs.Comparing.{PassedOver}
use Rattle.zonetext_lib.proofs.Same.{Reached}
use Rattle.zonetext_lib.proofs.diff.next_after.Given as goal

abbrev pub invariant-loop-answer : goal.invariant-loop-answer
invariant-loop-answer l = record {
  over : PassedOver l.ended l.initial.pieces l.pieces;
  reached : Reached l.ended l.before l.initial.pieces l.pieces l.last;
  cut : IfSome l.cut (CanCut l.ended l.before l.initial.pieces);
}

abbrev pub decreases-loop-answer : goal.decreases-loop-answer
decreases-loop-answer l = length l.pieces
