-- The parts of pieces, one after another.
use Rattle.std.proofs.Common.{◌≡◌, ℕ, List, [], ◌∷◌, ◌++◌, refl, sym, ap, ◌∙◌, inl, inr, append_assoc}
use Rattle.std.specs.Prelude.{Option, Some, None, map, Result, Ok, codes}
use Rattle.dns_lexer.specs.declared.pieces.Piece.{Piece}
use Rattle.dns_lexer.specs.declared.pieces.Piece.TheVariants.{Word as WordAt, Quote as QuoteAt, Comment as CommentAt, End as EndAt}
use Rattle.dns_lexer.specs.declared.pieces.Fault.{Fault}
use Rattle.dns_lexer.specs.Pieces.{between, end_at}
use Rattle.zonetext_lib.specs.declared.tokens.Form.{Form}
use Rattle.zonetext_lib.specs.Compare.{compared_parts}
use Rattle.zonetext_lib.specs.Entries.{Token, Ends, begins_glued, ended_after_pieces, ended_by, parts, parts_after}
use Rattle.zonetext_lib.specs.Tokens.{row_at, rows_after}
use Rattle.zonetext_lib.proofs.Cuts.{EndedFront}

pub parts_append : (octets : List ℕ) (ended : Option ℕ) (xs ys : List Piece) → parts_after octets ended (xs ++ ys) ≡ parts_after octets ended xs ++ parts_after octets (ended_after_pieces ended xs) ys
parts_append octets ended [] ys = refl
parts_append octets ended (WordAt p ∷ xs) ys = ap (λ l. Token (begins_glued ended p.start) (between octets p.start p.end) ∷ l) (parts_append octets (Some p.end) xs ys)
parts_append octets ended (QuoteAt p ∷ xs) ys = ap (λ l. Token (begins_glued ended p.start) (between octets p.start p.end) ∷ l) (parts_append octets (Some p.end) xs ys)
parts_append octets ended (CommentAt p ∷ xs) ys = parts_append octets ended xs ys
parts_append octets ended (EndAt p ∷ xs) ys = ap (λ l. Ends p.begins_blank ∷ l) (parts_append octets None xs ys)

pub says_append : (octets : List ℕ) (ended : Option ℕ) (xs ys : List Piece) → compared_parts octets ended (xs ++ ys) ≡ compared_parts octets ended xs ++ compared_parts octets (ended_after_pieces ended xs) ys
says_append octets ended [] ys = refl
says_append octets ended (WordAt p ∷ xs) ys = ap (λ l. Token (begins_glued ended p.start) (between octets p.start p.end) ∷ l) (says_append octets (Some p.end) xs ys)
says_append octets ended (QuoteAt p ∷ xs) ys = ap (λ l. Token (begins_glued ended p.start) (between octets p.start p.end) ∷ l) (says_append octets (Some p.end) xs ys)
says_append octets ended (CommentAt p ∷ xs) ys = says_append octets ended xs ys
says_append octets None (EndAt p ∷ xs) ys = says_append octets None xs ys
says_append octets (Some e) (EndAt p ∷ xs) ys = ap (λ l. Ends p.begins_blank ∷ l) (says_append octets None xs ys)

pub ended_append : (ended : Option ℕ) (xs ys : List Piece) → ended_after_pieces ended (xs ++ ys) ≡ ended_after_pieces (ended_after_pieces ended xs) ys
ended_append ended [] ys = refl
ended_append ended (x ∷ xs) ys = ended_append (ended_by ended x) xs ys

pub rows_append : (octets : List ℕ) (lines : ℕ) (form : Form) (ended : Option ℕ) (xs : List Piece) (given : List (Result Piece Fault))
    → rows_after octets lines form ended (map Ok xs ++ given) ≡ rows_after octets lines form ended (map Ok xs) ++ rows_after octets lines form (ended_after_pieces ended xs) given
rows_append octets lines form ended [] given = refl
rows_append octets lines form ended (WordAt p ∷ xs) given =
    let r : List ℕ = row_at octets lines form (codes "word") (begins_glued ended p.start) p.start p.end in
    ap (λ l. r ++ l) (rows_append octets lines form (Some p.end) xs given)
    ∙ sym (append_assoc r (rows_after octets lines form (Some p.end) (map Ok xs)) (rows_after octets lines form (ended_after_pieces (Some p.end) xs) given))
rows_append octets lines form ended (QuoteAt p ∷ xs) given =
    let r : List ℕ = row_at octets lines form (codes "quoted") (begins_glued ended p.start) p.start p.end in
    ap (λ l. r ++ l) (rows_append octets lines form (Some p.end) xs given)
    ∙ sym (append_assoc r (rows_after octets lines form (Some p.end) (map Ok xs)) (rows_after octets lines form (ended_after_pieces (Some p.end) xs) given))
rows_append octets lines form ended (CommentAt p ∷ xs) given = rows_append octets lines form ended xs given
rows_append octets lines form ended (EndAt p ∷ xs) given = rows_append octets lines form None xs given

-- after the end of an entry no token has ended
pub ended_none : (xs : List Piece) → EndedFront xs → ended_after_pieces None xs ≡ None
ended_none xs (inl none) = ap (ended_after_pieces None) none
ended_none xs (inr e) = ap (ended_after_pieces None) e.3 ∙ ended_append None e.0 (end_at e.1 e.2 ∷ [])

pub parts_ended : (octets : List ℕ) (xs ys : List Piece) → EndedFront xs → parts octets (xs ++ ys) ≡ parts octets xs ++ parts octets ys
parts_ended octets xs ys e = parts_append octets None xs ys ∙ ap (λ o. parts octets xs ++ parts_after octets o ys) (ended_none xs e)

pub says_ended : (octets : List ℕ) (xs ys : List Piece) → EndedFront xs → compared_parts octets None (xs ++ ys) ≡ compared_parts octets None xs ++ compared_parts octets None ys
says_ended octets xs ys e = says_append octets None xs ys ∙ ap (λ o. compared_parts octets None xs ++ compared_parts octets o ys) (ended_none xs e)

pub rows_ended : (octets : List ℕ) (lines : ℕ) (form : Form) (xs : List Piece) (given : List (Result Piece Fault)) → EndedFront xs
    → rows_after octets lines form None (map Ok xs ++ given) ≡ rows_after octets lines form None (map Ok xs) ++ rows_after octets lines form None given
rows_ended octets lines form xs given e =
    rows_append octets lines form None xs given ∙ ap (λ o. rows_after octets lines form None (map Ok xs) ++ rows_after octets lines form o given) (ended_none xs e)
