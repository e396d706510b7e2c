use Rattle.std.proofs.Common.{◌≡◌, ◌++◌, take}
use Rattle.std.specs.List.{flat_map}
use Rattle.finding_formats.specs.Pieces.{piece_text}
use Rattle.finding_formats.proofs.piece.push_pieces.Given as goal

abbrev pub invariant-loop-piece : goal.invariant-loop-piece
invariant-loop-piece g l = l.out.items ≡ l.fn.out.items ++ flat_map (piece_text l.context) (take l.piece-index l.pieces)
