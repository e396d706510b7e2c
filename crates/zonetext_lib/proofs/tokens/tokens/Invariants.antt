use Rattle.std.proofs.Common.{◌≡◌, ◌++◌, length}
use Rattle.std.specs.Prelude.{None}
use Rattle.dns_lexer.specs.Pieces.{EachWithin}
use Rattle.zone_format.specs.Place.{IsPositionAt}
use Rattle.zonetext_lib.specs.Tokens.{rows_after}
use Rattle.zone_format.proofs.Givens.{first_fault}
use Rattle.zonetext_lib.proofs.Order.{InOrder}
use Rattle.zonetext_lib.proofs.tokens.tokens.Given as goal

abbrev pub invariant-loop-piece : goal.invariant-loop-piece
invariant-loop-piece g l = record {
  fault : first_fault l.piece-iterator ≡ first_fault l.initial.piece-iterator;
  within : EachWithin (length l.octets) l.piece-iterator;
  order : InOrder l.place.at l.piece-iterator;
  place : IsPositionAt l.octets l.lines_before l.place;
  rows : l.out.items ++ rows_after l.octets l.lines_before l.form l.ended l.piece-iterator ≡ l.initial.out.items ++ rows_after l.octets l.lines_before l.form None l.initial.piece-iterator;
}
