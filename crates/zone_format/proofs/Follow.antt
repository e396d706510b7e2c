-- The pieces of the iterator follow one another.
use Rattle.std.proofs.Common.{ℕ, zero, suc, ◌≤◌, Bool, List, [], ◌∷◌, ◌++◌, length, take, sym, subst, arith, inl, inr}
use Rattle.std.specs.Prelude.{⊤, map, Result, Ok, Err, encode_utf8_all}
use Rattle.std.proofs.lemmas.Bool.{cases_lt}
use Rattle.dns_lexer.specs.declared.pieces.Piece.{Piece}
use Rattle.dns_lexer.specs.declared.pieces.Piece.TheVariants.{Word as WordAt, Quote as QuoteAt, Comment as CommentAt, End as EndAt}
use Rattle.dns_lexer.specs.declared.pieces.Fault.{Fault}
use Rattle.dns_lexer.specs.Lexeme.{Lexeme, Blank, Line, Open, Close, Note, Word, Quote}
use Rattle.dns_lexer.specs.Pieces.{pieces, begins_blank, IsPieces, Reads, ReadsOctets, EachWithin, moved, place_of}
use Rattle.dns_lexer.proofs.PieceMoved.{mono}
use Rattle.dns_lexer.proofs.PieceSplit.{split_pieces}

-- each begins where the one before it ended, or later
abbrev pub Follows : ℕ → List (Result Piece Fault) → Type 0
Follows n [] = ⊤
Follows n (Ok (WordAt p) ∷ given) = (n ≤ p.start) × Follows p.end given
Follows n (Ok (QuoteAt p) ∷ given) = (n ≤ p.start) × Follows p.end given
Follows n (Ok (CommentAt p) ∷ given) = (n ≤ p.start) × Follows p.end given
Follows n (Ok (EndAt p) ∷ given) = (n ≤ p.at) × Follows p.at given
Follows n (Err f ∷ given) = ⊤

ordered : (ls : List Lexeme) (n at d : ℕ) (b : Bool) → n ≤ at → Follows n (map Ok (pieces at d b ls))
ordered [] n at d b h = (h, tt)
ordered (Open ∷ ls) n at d b h = ordered ls n _ (suc d) b (omega arith)
ordered (Close ∷ ls) n at zero b h = ordered ls n _ zero b (omega arith)
ordered (Close ∷ ls) n at (suc d) b h = ordered ls n _ d b (omega arith)
ordered (Line r ∷ ls) n at zero b h = (omega arith, ordered ls _ _ zero _ (omega arith))
ordered (Line r ∷ ls) n at (suc d) b h = ordered ls n _ (suc d) b (omega arith)
ordered (Blank t ∷ ls) n at d b h = ordered ls n _ d b (omega arith)
ordered (Note cs ∷ ls) n at d b h = (h, ordered ls _ _ d b (omega arith))
ordered (Word s ss ∷ ls) n at d b h = (h, ordered ls _ _ d b (omega arith))
ordered (Quote ss ∷ ls) n at d b h = (h, ordered ls _ _ d b (omega arith))

front_ordered : (n : ℕ) (found more : List Piece) (f : Fault) → Follows n (map Ok (found ++ more)) → Follows n (map Ok found ++ Err f ∷ [])
front_ordered n [] more f h = tt
front_ordered n (WordAt p ∷ found) more f h = (h.0, front_ordered p.end found more f h.1)
front_ordered n (QuoteAt p ∷ found) more f h = (h.0, front_ordered p.end found more f h.1)
front_ordered n (CommentAt p ∷ found) more f h = (h.0, front_ordered p.end found more f h.1)
front_ordered n (EndAt p ∷ found) more f h = (h.0, front_ordered p.at found more f h.1)

pieces_ordered : (text : List ℕ) (found : List Piece) → IsPieces text found → Follows 0 (map Ok found)
pieces_ordered text found p = subst (λ l. Follows 0 (map Ok l)) p.placed (ordered p.lexemes 0 0 0 (begins_blank p.lexemes) (omega arith))

reads_ordered : (text : List ℕ) (given : List (Result Piece Fault)) → Reads text given → Follows 0 given
reads_ordered text given (inl w) = subst (Follows 0) (sym w.is) (pieces_ordered text w.found w.placed)
reads_ordered text given (inr f) =
    let viable = f.is_fault.bad.at.viable in
    let whole = split_pieces (take f.fault.at text ++ viable.tail) viable.found viable.splits in
    let first = f.settled.first viable.tail whole.0 whole.1 in
    subst (Follows 0) (sym f.is) (front_ordered 0 f.found first.0 f.fault (subst (λ l. Follows 0 (map Ok l)) first.1 (pieces_ordered _ whole.0 whole.1)))

pub back : (octets : List ℕ) (i j : ℕ) → i ≤ length octets → place_of octets i ≤ place_of octets j → i ≤ j
back octets i j within h = elim (cases_lt j i) [ inl less ↦ absurd (omega (arith, mono octets j i less within)) | inr most ↦ most ]

octets_ordered : (octets : List ℕ) (n : ℕ) (given : List (Result Piece Fault)) → n ≤ length octets → EachWithin (length octets) given
    → Follows (place_of octets n) (map (moved (place_of octets)) given) → Follows n given
octets_ordered octets n [] h w o = tt
octets_ordered octets n (Ok (WordAt p) ∷ given) h w o = (back octets n p.start h o.0, octets_ordered octets p.end given w.0.1 w.1 o.1)
octets_ordered octets n (Ok (QuoteAt p) ∷ given) h w o = (back octets n p.start h o.0, octets_ordered octets p.end given w.0.1 w.1 o.1)
octets_ordered octets n (Ok (CommentAt p) ∷ given) h w o = (back octets n p.start h o.0, octets_ordered octets p.end given w.0.1 w.1 o.1)
octets_ordered octets n (Ok (EndAt p) ∷ given) h w o = (back octets n p.at h o.0, octets_ordered octets p.at given w.0 w.1 o.1)
octets_ordered octets n (Err f ∷ given) h w o = tt

pub follow : (octets : List ℕ) (given : List (Result Piece Fault)) → ReadsOctets octets given → EachWithin (length octets) given → Follows 0 given
follow octets given r w = octets_ordered octets 0 given (omega arith) w (reads_ordered (encode_utf8_all octets) (map (moved (place_of octets)) given) r)
