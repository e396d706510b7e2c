-- The pieces of whole octets end with an entry's end, which is the end of the octets.
use Rattle.std.proofs.Common.{◌≡◌, ℕ, ◌≤◌, Bool, false, List, [], ◌∷◌, ◌++◌, length, refl, sym, ap, ◌∙◌, subst, arith, inl, inr, take_all}
use Rattle.std.specs.Prelude.{map, Result, Ok, encode_utf8_all}
use Rattle.std.proofs.lemmas.Bool.{cases_lt}
use Rattle.std.proofs.lemmas.List.{map-append}
use Rattle.dns_lexer.specs.declared.pieces.EndOfEntry.{EndOfEntry}
use Rattle.dns_lexer.specs.declared.pieces.Fault.{Fault}
use Rattle.dns_lexer.specs.declared.pieces.Piece.{Piece}
use Rattle.dns_lexer.specs.declared.pieces.Piece.TheVariants.{Word as WordAt, Quote as QuoteAt, Comment as CommentAt, End as EndAt}
use Rattle.dns_lexer.specs.Pieces.{EachWithin, AreItemsOf, IsPieces, end_at, moved_piece, place_of, word_at}
use Rattle.dns_lexer.proofs.PieceJoins.{pieces_joined}
use Rattle.dns_lexer.proofs.PieceMoved.{mono}
use Rattle.zone_format.proofs.Givens.{first_of_oks, pieces_of_oks, whole_of}
use Rattle.dns_lexer.specs.PassedLine.{HasNoEnd}

abbrev last_of : Piece → List Piece → Piece
last_of d [] = d
last_of d (x ∷ xs) = last_of x xs

last_is : (d : Piece) (xs : List Piece) (x : Piece) → last_of d (xs ++ x ∷ []) ≡ x
last_is d [] x = refl
last_is d (y ∷ xs) x = last_is y xs x

last_moved : (g : ℕ → ℕ) (d : Piece) (xs : List Piece) → last_of (moved_piece g d) (map (moved_piece g) xs) ≡ moved_piece g (last_of d xs)
last_moved g d [] = refl
last_moved g d (x ∷ xs) = last_moved g x xs

no_text : IsPieces [] (end_at 0 false ∷ [])
no_text = record { lexemes = []; spelled = refl; valid = refl; nested = refl; placed = refl }

-- the last piece, in the text of the octets
last_end : (octets : List ℕ) (d : Piece) (found : List Piece) → AreItemsOf octets (map Ok found)
    → (b : Bool) × (moved_piece (place_of octets) (last_of d found) ≡ end_at (length (encode_utf8_all octets)) b)
last_end octets d found g =
    let text : List ℕ = encode_utf8_all octets in
    let whole : IsPieces text (map (moved_piece (place_of octets)) found) =
    subst (λ l. IsPieces text (map (moved_piece (place_of octets)) l)) (pieces_of_oks found) (whole_of octets (map Ok found) g.0 (first_of_oks found)) in
    let j = pieces_joined text [] false _ (end_at 0 false ∷ []) whole no_text in (
      j.1,
      sym (last_moved (place_of octets) d found) ∙ ap (last_of (moved_piece (place_of octets) d)) j.2 ∙ last_is (moved_piece (place_of octets) d) j.0 (end_at (length text) j.1),
    )

no_last : (d : Piece) (found : List Piece) → HasNoEnd (d ∷ []) → HasNoEnd found → HasNoEnd (last_of d found ∷ [])
no_last d [] h k = h
no_last d (WordAt p ∷ ps) h k = no_last (WordAt p) ps tt k
no_last d (QuoteAt p ∷ ps) h k = no_last (QuoteAt p) ps tt k
no_last d (CommentAt p ∷ ps) h k = no_last (CommentAt p) ps tt k
no_last d (EndAt e ∷ ps) h k = elim k [ ]

not_end : (g : ℕ → ℕ) (p : Piece) (n : ℕ) (b : Bool) → HasNoEnd (p ∷ []) → moved_piece g p ≡ end_at n b → ⊥
not_end g (WordAt p) n b h e = cc
not_end g (QuoteAt p) n b h e = cc
not_end g (CommentAt p) n b h e = cc
not_end g (EndAt p) n b h e = elim h [ ]

-- an entry that is still open is not the last piece
pub some_end : (octets : List ℕ) (found : List Piece) → HasNoEnd found → AreItemsOf octets (map Ok found) → ⊥
some_end octets found h g =
    let e = last_end octets (word_at 0 0) found g in
    not_end (place_of octets) (last_of (word_at 0 0) found) _ e.0 (no_last (word_at 0 0) found tt h) e.1

abbrev end_of : Piece → ℕ
end_of (EndAt e) = e.at
end_of _ = 0

pub within_after : (n : ℕ) (xs : List Piece) (given : List (Result Piece Fault)) → EachWithin n (map Ok xs ++ given) → EachWithin n given
within_after n [] given w = w
within_after n (x ∷ xs) given w = within_after n xs given w.1

pub within_before : (n : ℕ) (xs : List Piece) (given : List (Result Piece Fault)) → EachWithin n (map Ok xs ++ given) → EachWithin n (map Ok xs)
within_before n [] given w = tt
within_before n (x ∷ xs) given w = (w.0, within_before n xs given w.1)

-- the last end is that of the octets
pub ends_all : (octets : List ℕ) (found : List Piece) (end : EndOfEntry) → AreItemsOf octets (map Ok found ++ Ok (EndAt end) ∷ []) → end.at ≡ length octets
ends_all octets found end g =
    let all : AreItemsOf octets (map Ok (found ++ EndAt end ∷ [])) = subst (AreItemsOf octets) (sym (map-append Ok found (EndAt end ∷ []))) g in
    let e = last_end octets (word_at 0 0) (found ++ EndAt end ∷ []) all in
    let at : place_of octets end.at ≡ length (encode_utf8_all octets) = ap end_of (ap (moved_piece (place_of octets)) (sym (last_is (word_at 0 0) found (EndAt end))) ∙ e.1) in
    let within : end.at ≤ length octets = (within_after (length octets) found (Ok (EndAt end) ∷ []) g.1).0 in
    let full : place_of octets (length octets) ≡ length (encode_utf8_all octets) = ap (λ l. length (encode_utf8_all l)) (take_all (length octets) octets (omega arith)) in
    elim (cases_lt end.at (length octets)) [
      | inl less ↦ absurd (omega (arith, at, full, mono octets end.at (length octets) less (omega arith)))
      | inr most ↦ omega (arith, within, most)
    ]
