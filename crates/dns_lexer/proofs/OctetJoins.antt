-- What follows an entry's end, of octets that are characters.
use Rattle.std.proofs.Common.{◌≡◌, ℕ, ◌+◌, ◌-◌, ◌≤◌, Bool, List, [], ◌∷◌, ◌++◌, length, take, drop, refl, sym, ap, ◌∙◌, subst, arith, length-append, ◌⊎◌, inl, inr}
use Rattle.std.specs.Prelude.{map, encode_utf8_all}
use Rattle.std.proofs.lemmas.Bool.{cases_lt}
use Rattle.std.proofs.lemmas.List.{map-append, take-append-drop, length-take-le}
use Rattle.std.proofs.lemmas.Str.{encodes-append}
use Rattle.std.proofs.Math.Seq.{take-append-add, drop-append_seam}
use Rattle.dns_lexer.specs.declared.pieces.Piece.{Piece}
use Rattle.dns_lexer.specs.declared.pieces.Piece.TheVariants.{Word as WordAt, Quote as QuoteAt, Comment as CommentAt, End as EndAt}
use Rattle.dns_lexer.specs.Pieces.{word_at, quote_at, comment_at, end_at, IsPieces, IsOctetPieces, moved_piece, place_of, piece_start}
use Rattle.dns_lexer.proofs.PieceMoved.{mono}
use Rattle.dns_lexer.proofs.PieceSettled.{end_of}
use Rattle.dns_lexer.proofs.PieceJoins.{further, pieces_continue}

-- octets, and an offset among them
module _ (octets : List ℕ) (at : ℕ) (fits : at ≤ length octets) where
  place_split : (i : ℕ) → place_of octets (at + i) ≡ place_of octets at + place_of (drop at octets) i
  place_split i =
      let e : take (at + i) octets ≡ take at octets ++ take i (drop at octets) =
      ap (take (at + i)) (sym (take-append-drop at octets)) ∙ ap (λ n. take (n + i) (take at octets ++ drop at octets)) (sym (length-take-le at octets fits))
      ∙ take-append-add (take at octets) (drop at octets) i in
      ap (λ l. length (encode_utf8_all l)) e ∙ ap length (encodes-append (take at octets) (take i (drop at octets)))
      ∙ length-append (encode_utf8_all (take at octets)) (encode_utf8_all (take i (drop at octets)))

  -- an offset after this one, counted from here
  place_back : (i j : ℕ) → place_of octets i ≡ place_of octets at + j → (i ≡ at + (i - at)) × (place_of (drop at octets) (i - at) ≡ j)
  place_back i j e = elim (cases_lt i at) [
    | inl less ↦ absurd (omega (arith, e, mono octets i at less fits))
    | inr more ↦
        let same : i ≡ at + (i - at) = omega (arith, more) in
        let k : place_of octets i ≡ place_of octets at + place_of (drop at octets) (i - at) = ap (place_of octets) same ∙ place_split (i - at) in
        (same, omega (arith, e, k))
  ]

  abbrev back : ℕ → ℕ
  back i = i - at

  abbrev Back : Piece → Piece → Type 0
  Back p q = (p ≡ moved_piece (λ i. at + i) (moved_piece back p)) × (moved_piece (place_of (drop at octets)) (moved_piece back p) ≡ q)

  abbrev blank_of : Bool → Piece → Bool
  blank_of b (EndAt p) = p.begins_blank
  blank_of b _ = b

  piece_back : (p q : Piece) → moved_piece (place_of octets) p ≡ moved_piece (λ i. place_of octets at + i) q → Back p q
  piece_back (WordAt p) (WordAt q) e =
      let s = place_back p.start q.start (ap piece_start e) in
      let t = place_back p.end q.end (ap end_of e) in
      (ap (λ i. word_at i p.end) s.0 ∙ ap (λ i. word_at (at + (p.start - at)) i) t.0, ap (λ i. word_at i (place_of (drop at octets) (p.end - at))) s.1 ∙ ap (λ i. word_at q.start i) t.1)
  piece_back (QuoteAt p) (QuoteAt q) e =
      let s = place_back p.start q.start (ap piece_start e) in
      let t = place_back p.end q.end (ap end_of e) in
      (ap (λ i. quote_at i p.end) s.0 ∙ ap (λ i. quote_at (at + (p.start - at)) i) t.0, ap (λ i. quote_at i (place_of (drop at octets) (p.end - at))) s.1 ∙ ap (λ i. quote_at q.start i) t.1)
  piece_back (CommentAt p) (CommentAt q) e =
      let s = place_back p.start q.start (ap piece_start e) in
      let t = place_back p.end q.end (ap end_of e) in
      (ap (λ i. comment_at i p.end) s.0 ∙ ap (λ i. comment_at (at + (p.start - at)) i) t.0, ap (λ i. comment_at i (place_of (drop at octets) (p.end - at))) s.1 ∙ ap (λ i. comment_at q.start i) t.1)
  piece_back (EndAt p) (EndAt q) e =
      let s = place_back p.at q.at (ap piece_start e) in
      (ap (λ i. end_at i p.begins_blank) s.0, ap (λ i. end_at i p.begins_blank) s.1 ∙ ap (end_at q.at) (ap (blank_of p.begins_blank) e))
  piece_back (WordAt p) (QuoteAt q) e = cc
  piece_back (WordAt p) (CommentAt q) e = cc
  piece_back (WordAt p) (EndAt q) e = cc
  piece_back (QuoteAt p) (WordAt q) e = cc
  piece_back (QuoteAt p) (CommentAt q) e = cc
  piece_back (QuoteAt p) (EndAt q) e = cc
  piece_back (CommentAt p) (WordAt q) e = cc
  piece_back (CommentAt p) (QuoteAt q) e = cc
  piece_back (CommentAt p) (EndAt q) e = cc
  piece_back (EndAt p) (WordAt q) e = cc
  piece_back (EndAt p) (QuoteAt q) e = cc
  piece_back (EndAt p) (CommentAt q) e = cc

  abbrev tail_of : List Piece → List Piece
  tail_of [] = []
  tail_of (x ∷ xs) = xs

  abbrev first_of : Piece → List Piece → Piece
  first_of p [] = p
  first_of p (x ∷ xs) = x

  all_back : (more alone : List Piece) → map (moved_piece (place_of octets)) more ≡ further (place_of octets at) alone
      → (more ≡ further at (map (moved_piece back) more)) × (map (moved_piece (place_of (drop at octets))) (map (moved_piece back) more) ≡ alone)
  all_back [] [] e = (refl, refl)
  all_back [] (q ∷ alone) e = cc
  all_back (p ∷ more) [] e = cc
  all_back (p ∷ more) (q ∷ alone) e =
      let f = piece_back p q (ap (first_of p) e) in
      let r = all_back more alone (ap tail_of e) in (
        ap (λ x. x ∷ more) f.0 ∙ ap (λ l. moved_piece (λ i. at + i) (moved_piece back p) ∷ l) r.0,
        ap (λ x. x ∷ map (moved_piece (place_of (drop at octets))) (map (moved_piece back) more)) f.1
            ∙ ap (λ l. q ∷ l) r.1,
      )

  nothing : (more : List Piece) → map (moved_piece (place_of octets)) more ≡ [] → more ≡ []
  nothing [] e = refl
  nothing (p ∷ more) e = cc

  pub octet_pieces_continue : (found more : List Piece) (b : Bool) → IsOctetPieces octets (found ++ end_at at b ∷ more)
      → (more ≡ []) ⊎ ((alone : List Piece) × IsOctetPieces (drop at octets) alone × (more ≡ further at alone))
  octet_pieces_continue found more b p =
      go (pieces_continue (encode_utf8_all octets) (map (moved_piece (place_of octets)) found) (map (moved_piece (place_of octets)) more) (place_of octets at) b
      (subst (IsPieces (encode_utf8_all octets)) (map-append (moved_piece (place_of octets)) found (end_at at b ∷ more)) p))
    where
      left : drop (place_of octets at) (encode_utf8_all octets) ≡ encode_utf8_all (drop at octets)
      left =
          ap (λ l. drop (place_of octets at) (encode_utf8_all l)) (sym (take-append-drop at octets)) ∙ ap (drop (place_of octets at)) (encodes-append (take at octets) (drop at octets))
          ∙ drop-append_seam (encode_utf8_all (take at octets)) (encode_utf8_all (drop at octets))

      go : (map (moved_piece (place_of octets)) more ≡ []) ⊎
          ((alone : List Piece) × IsPieces (drop (place_of octets at) (encode_utf8_all octets)) alone × (map (moved_piece (place_of octets)) more ≡ further (place_of octets at) alone))
          → (more ≡ []) ⊎ ((alone : List Piece) × IsOctetPieces (drop at octets) alone × (more ≡ further at alone))
      go (inl e) = inl (nothing more e)
      go (inr g) =
          let r = all_back more g.0 g.2 in
          inr (map (moved_piece back) more, subst (IsPieces (encode_utf8_all (drop at octets))) (sym r.1) (subst (λ l. IsPieces l g.0) left g.1), r.0)
