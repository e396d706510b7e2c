use Rattle.zonetext_lib.proofs.Counted.{Counted}
use Rattle.zonetext_lib.proofs.comparer.end_twice.Given as goal

abbrev pub invariant-loop-piece : goal.invariant-loop-piece
invariant-loop-piece l = Counted l.octets l.initial.piece-iterator l.piece-iterator l.count l.has_tokens
