use Rattle.std.proofs.Common.{length}
use Rattle.zonetext_lib.proofs.Settling.{Settling}
use Rattle.zonetext_lib.proofs.layout.lay_out_settled.Given as goal

abbrev pub invariant-loop-piece : goal.invariant-loop-piece
invariant-loop-piece g l = record {
  stands : Settling l.gap l.octets l.initial.out.items l.initial.pieces l.pieces l.out.items l.ended l.kept l.before l.made_before l.last l.made;
}

abbrev pub decreases-loop-piece : goal.decreases-loop-piece
decreases-loop-piece g l = length l.pieces
