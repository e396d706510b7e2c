use Rattle.std.proofs.Common.{◌≡◌, ◌++◌, length, true, false, not}
use Rattle.std.specs.Prelude.{None}
use Rattle.std.specs.Option.{is_some}
use Rattle.dns_lexer.proofs.PieceSplit.{closes}
use Rattle.dns_lexer.specs.Pieces.{EachWithin}
use Rattle.zonetext_lib.specs.Entries.{parts, parts_after}
use Rattle.zonetext_lib.specs.Layout.{laid_out}
use Rattle.zone_format.proofs.Givens.{first_fault, pieces_in}
use Rattle.zonetext_lib.proofs.Lines.{left}
use Rattle.zonetext_lib.proofs.layout.lay_out.Given as goal

abbrev pub invariant-loop-piece : goal.invariant-loop-piece
invariant-loop-piece g l = record {
  fault : first_fault l.pieces ≡ first_fault l.initial.pieces;
  within : EachWithin (length l.octets) l.pieces;
  closed : closes (not (is_some l.ended)) l.pieces ≡ true;
  out : first_fault l.initial.pieces ≡ None → l.out.items ++ left l.gap l.owes_feed (is_some l.ended) (parts_after l.octets l.ended (pieces_in l.pieces)) ≡ l.initial.out.items ++ laid_out l.gap false
      (parts l.octets (pieces_in l.initial.pieces));
}

abbrev pub decreases-loop-piece : goal.decreases-loop-piece
decreases-loop-piece g l = length l.pieces
