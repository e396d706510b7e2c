use Rattle.zone_check.proofs.Linting.{Looks}
use Rattle.zone_check.proofs.lint.lint_pieces.Given as goal

abbrev pub invariant-loop-piece : goal.invariant-loop-piece
invariant-loop-piece g l = Looks l.octets l.initial.piece-iterator l.initial.found.items l.piece-iterator l.reached l.found.items
