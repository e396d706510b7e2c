-- One more piece was checked.
use Rattle.std.proofs.Common.{◌≡◌, ℕ, ◌≤◌, List, ◌∷◌, ◌++◌, length, sym, ap, ◌∙◌, subst, append_assoc}
use Rattle.std.specs.Prelude.{Result, Ok}
use Rattle.dns_lexer.specs.declared.pieces.Piece.{Piece}
use Rattle.dns_lexer.specs.declared.pieces.Piece.TheVariants.{Word as WordAt, Quote as QuoteAt, Comment as CommentAt, End as EndAt}
use Rattle.dns_lexer.specs.declared.pieces.Fault.{Fault}
use Rattle.dns_lexer.specs.Pieces.{EachWithin, piece_start}
use Rattle.zone_format.proofs.Follow.{Follows}
use Rattle.zone_check.specs.declared.lint.LintState.{LintState}
use Rattle.zone_check.specs.declared.lint.Remark.{Remark}
use Rattle.zone_check.specs.Lint.{Shows, entry_remarks, first_reached, next_remarks, piece_end, reached_after}

pub follows_next : (n : ℕ) (p : Piece) (left : List (Result Piece Fault)) → Follows n (Ok p ∷ left) → (n ≤ piece_start p) × Follows (piece_end p) left
follows_next n (WordAt p) left h = h
follows_next n (QuoteAt p) left h = h
follows_next n (CommentAt p) left h = h
follows_next n (EndAt p) left h = h

-- the octets that were checked, the pieces that are left, and all remarks so far
pub record Looks (octets : List ℕ) (given : List (Result Piece Fault)) (begun : List Remark) (left : List (Result Piece Fault)) (reached : LintState) (found : List Remark) : Type 0 where
  pub within : EachWithin (length octets) left
  pub follows : Follows reached.at left
  pub deep : reached.depth ≤ reached.at
  pub told : found ++ entry_remarks octets reached left ≡ begun ++ entry_remarks octets first_reached given

told_more : (octets : List ℕ) (p : Piece) (left : List (Result Piece Fault)) (old new : LintState) (found more : List Remark) → Shows octets old p found more new
    → more ++ entry_remarks octets new left ≡ found ++ entry_remarks octets old (Ok p ∷ left)
told_more octets p left old new found more s =
    let rest : List Remark = entry_remarks octets (reached_after octets old p) left in
    ap (λ (r : LintState). more ++ entry_remarks octets r left) s.reached
    ∙ ap (λ l. l ++ rest) s.remarks ∙ append_assoc found (next_remarks octets old p) rest

pub looks_on : (octets : List ℕ) (given : List (Result Piece Fault)) (begun : List Remark) (now left : List (Result Piece Fault)) (p : Piece) (old new : LintState) (found more : List Remark) → now ≡ Ok p ∷ left
    → Shows octets old p found more new → Looks octets given begun now old found → Looks octets given begun left new more
looks_on octets given begun now left p old new found more step s l =
    let within : EachWithin (length octets) (Ok p ∷ left) = subst (EachWithin (length octets)) step l.within in
    let follows : Follows old.at (Ok p ∷ left) = subst (Follows old.at) step l.follows in
    record {
      within = within.1;
      follows = subst (λ (r : LintState). Follows r.at left) (sym s.reached) (follows_next old.at p left follows).1;
      deep = s.deep;
      told = told_more octets p left old new found more s ∙ ap (λ (x : List (Result Piece Fault)). found ++ entry_remarks octets old x) (sym step) ∙ l.told;
    }
