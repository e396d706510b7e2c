use Rattle.zone_format.proofs.Turning.{Stays}
use Rattle.zone_format.proofs.format.write_all.Given as goal

abbrev pub invariant-loop-piece : goal.invariant-loop-piece
invariant-loop-piece g l = Stays l.octets l.initial.piece-iterator l.initial.out.items l.initial.progress l.piece-iterator l.out.items l.progress
