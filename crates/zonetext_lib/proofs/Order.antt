-- The tokens that `Pieces` yields are in order.
use Rattle.std.proofs.Common.{◌≡◌, ℕ, zero, suc, ◌≤◌, Bool, List, [], ◌∷◌, ◌++◌, length, take, refl, sym, subst, arith, inl, inr}
use Rattle.std.specs.Prelude.{⊤, map, Result, Ok, Err, encode_utf8_all}
use Rattle.dns_lexer.specs.declared.pieces.Piece.{Piece}
use Rattle.dns_lexer.specs.declared.pieces.Piece.TheVariants.{Word as WordAt, Quote as QuoteAt, Comment as CommentAt, End as EndAt}
use Rattle.dns_lexer.specs.declared.pieces.Fault.{Fault}
use Rattle.dns_lexer.specs.Lexeme.{Lexeme, Blank, Line, Open, Close, Note, Word, Quote}
use Rattle.dns_lexer.specs.Pieces.{pieces, begins_blank, IsPieces, Reads, ReadsOctets, EachWithin, moved, place_of}
use Rattle.dns_lexer.proofs.PieceSplit.{split_pieces}
use Rattle.zone_format.proofs.Follow.{back}

-- each token begins where the one before it began, or later, and nothing follows an error
abbrev pub InOrder : ℕ → List (Result Piece Fault) → Type 0
InOrder n [] = ⊤
InOrder n (Ok (WordAt p) ∷ given) = (n ≤ p.start) × InOrder p.start given
InOrder n (Ok (QuoteAt p) ∷ given) = (n ≤ p.start) × InOrder p.start given
InOrder n (Ok (CommentAt p) ∷ given) = InOrder n given
InOrder n (Ok (EndAt p) ∷ given) = InOrder n given
InOrder n (Err f ∷ given) = given ≡ []

ordered : (ls : List Lexeme) (n at d : ℕ) (b : Bool) → n ≤ at → InOrder n (map Ok (pieces at d b ls))
ordered [] n at d b h = tt
ordered (Open ∷ ls) n at d b h = ordered ls n _ (suc d) b (omega arith)
ordered (Close ∷ ls) n at zero b h = ordered ls n _ zero b (omega arith)
ordered (Close ∷ ls) n at (suc d) b h = ordered ls n _ d b (omega arith)
ordered (Line r ∷ ls) n at zero b h = ordered ls n _ zero _ (omega arith)
ordered (Line r ∷ ls) n at (suc d) b h = ordered ls n _ (suc d) b (omega arith)
ordered (Blank t ∷ ls) n at d b h = ordered ls n _ d b (omega arith)
ordered (Note cs ∷ ls) n at d b h = ordered ls n _ d b (omega arith)
ordered (Word s ss ∷ ls) n at d b h = (h, ordered ls at _ d b (omega arith))
ordered (Quote ss ∷ ls) n at d b h = (h, ordered ls at _ d b (omega arith))

front_ordered : (n : ℕ) (found more : List Piece) (f : Fault) → InOrder n (map Ok (found ++ more)) → InOrder n (map Ok found ++ Err f ∷ [])
front_ordered n [] more f h = refl
front_ordered n (WordAt p ∷ found) more f h = (h.0, front_ordered p.start found more f h.1)
front_ordered n (QuoteAt p ∷ found) more f h = (h.0, front_ordered p.start found more f h.1)
front_ordered n (CommentAt p ∷ found) more f h = front_ordered n found more f h
front_ordered n (EndAt p ∷ found) more f h = front_ordered n found more f h

pieces_ordered : (text : List ℕ) (found : List Piece) → IsPieces text found → InOrder 0 (map Ok found)
pieces_ordered text found p = subst (λ l. InOrder 0 (map Ok l)) p.placed (ordered p.lexemes 0 0 0 (begins_blank p.lexemes) (omega arith))

reads_ordered : (text : List ℕ) (given : List (Result Piece Fault)) → Reads text given → InOrder 0 given
reads_ordered text given (inl w) = subst (InOrder 0) (sym w.is) (pieces_ordered text w.found w.placed)
reads_ordered text given (inr f) =
    let viable = f.is_fault.bad.at.viable in
    let whole = split_pieces (take f.fault.at text ++ viable.tail) viable.found viable.splits in
    let first = f.settled.first viable.tail whole.0 whole.1 in
    subst (InOrder 0) (sym f.is) (front_ordered 0 f.found first.0 f.fault (subst (λ l. InOrder 0 (map Ok l)) first.1 (pieces_ordered _ whole.0 whole.1)))

none : (octets : List ℕ) (given : List (Result Piece Fault)) → map (moved (place_of octets)) given ≡ [] → given ≡ []
none octets [] e = refl
none octets (x ∷ given) e = cc

octets_ordered : (octets : List ℕ) (n : ℕ) (given : List (Result Piece Fault)) → n ≤ length octets → EachWithin (length octets) given
    → InOrder (place_of octets n) (map (moved (place_of octets)) given) → InOrder n given
octets_ordered octets n [] h w o = tt
octets_ordered octets n (Ok (WordAt p) ∷ given) h w o = let fits : p.start ≤ length octets = omega
    (arith, w.0.0, w.0.1) in (back octets n p.start h o.0, octets_ordered octets p.start given fits w.1 o.1)
octets_ordered octets n (Ok (QuoteAt p) ∷ given) h w o = let fits : p.start ≤ length octets = omega
    (arith, w.0.0, w.0.1) in (back octets n p.start h o.0, octets_ordered octets p.start given fits w.1 o.1)
octets_ordered octets n (Ok (CommentAt p) ∷ given) h w o = octets_ordered octets n given h w.1 o
octets_ordered octets n (Ok (EndAt p) ∷ given) h w o = octets_ordered octets n given h w.1 o
octets_ordered octets n (Err f ∷ given) h w o = none octets given o

pub in_order : (octets : List ℕ) (given : List (Result Piece Fault)) → ReadsOctets octets given → EachWithin (length octets) given → InOrder 0 given
in_order octets given r w = octets_ordered octets 0 given (omega arith) w (reads_ordered (encode_utf8_all octets) (map (moved (place_of octets)) given) r)
