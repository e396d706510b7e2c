use Rattle.std.proofs.Common.{◌≡◌}
use Rattle.zone_format.proofs.Givens.{first_fault}
use Rattle.zonetext_lib.proofs.check.check.Given as goal

abbrev pub invariant-loop-piece : goal.invariant-loop-piece
invariant-loop-piece l = first_fault l.piece-iterator ≡ first_fault l.initial.piece-iterator
