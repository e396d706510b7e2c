-- After the last end no octets are left.
use Rattle.std.proofs.Common.{ℕ, ◌≡◌, ◌+◌, Bool, false, List, [], ◌∷◌, ◌++◌, length, take, drop, refl, sym, ap, ◌∙◌, arith, length-append, ⊎_elim, None, Result, Ok, Err}
use Rattle.std.specs.Prelude.{map, encode_utf8, encode_utf8_all}
use Rattle.std.proofs.lemmas.List.{take-append-drop}
use Rattle.std.proofs.lemmas.Str.{encodes-append, length-encode, len_utf8_bounds}
use Rattle.dns_lexer.specs.EntryTokens.{seen_from}
use Rattle.dns_lexer.specs.Pieces.{IsPieces, AreItemsOf, end_at, moved, place_of}
use Rattle.dns_lexer.specs.declared.pieces.EndOfEntry.{EndOfEntry}
use Rattle.dns_lexer.specs.declared.pieces.Fault.{Fault}
use Rattle.dns_lexer.specs.declared.pieces.Piece.{Piece}
use Rattle.dns_lexer.specs.declared.pieces.Piece.TheVariants.{Word as WordAt, Quote as QuoteAt, Comment as CommentAt, End as EndAt}
use Rattle.dns_lexer.proofs.PieceJoins.{pieces_joined}

abbrev Given : Type 0
Given = List (Result Piece Fault)

no_octets : (octets : List ℕ) → length (encode_utf8_all octets) ≡ 0 → octets ≡ []
no_octets [] h = refl
no_octets (c ∷ octets) h = absurd (omega (arith, h, length-encode c, (len_utf8_bounds c).0, length-append (encode_utf8 c) (encode_utf8_all octets)))

-- octets of which the first ones are encoded as all are
all_before : (octets : List ℕ) (n : ℕ) → place_of octets n ≡ length (encode_utf8_all octets) → drop n octets ≡ []
all_before octets n is =
    let both : length (encode_utf8_all octets) ≡ length (encode_utf8_all (take n octets)) + length (encode_utf8_all (drop n octets)) =
    ap (λ l. length (encode_utf8_all l)) (sym (take-append-drop n octets)) ∙ ap length (encodes-append (take n octets) (drop n octets))
    ∙ length-append (encode_utf8_all (take n octets)) (encode_utf8_all (drop n octets)) in
    no_octets (drop n octets) (omega (arith, is, both))

none_pieces : IsPieces [] (end_at 0 false ∷ [])
none_pieces = record { lexemes = []; spelled = refl; valid = refl; nested = refl; placed = refl }

-- the last piece is the end of the text
pub last_piece : (text : List ℕ) (found : List Piece) → IsPieces text found → (front : List Piece) × (b : Bool) × (found ≡ front ++ end_at (length text) b ∷ [])
last_piece text found p = let j = pieces_joined text [] false found (end_at 0 false ∷ []) p none_pieces in (j.0, j.1, j.2)

module _ (octets : List ℕ) (f : ℕ → ℕ) where
  -- the pieces of comments alone are not seen, and they have no end
  quiet_end : (began : ℕ) (rest : Given) (front : List Piece) (n : ℕ) (b : Bool) → [] ≡ seen_from octets began None rest → map (moved f) rest ≡ map Ok (front ++ end_at n b ∷ []) → ⊥
  quiet_end began [] [] n b s is = cc
  quiet_end began [] (y ∷ front) n b s is = cc
  quiet_end began (Ok (WordAt p) ∷ rest) front n b s is = cc
  quiet_end began (Ok (QuoteAt p) ∷ rest) front n b s is = cc
  quiet_end began (Ok (EndAt e) ∷ rest) front n b s is = cc
  quiet_end began (Err x ∷ rest) front n b s is = cc
  quiet_end began (Ok (CommentAt p) ∷ rest) [] n b s is = cc
  quiet_end began (Ok (CommentAt p) ∷ rest) (y ∷ front) n b s is =
      let more : map (moved f) rest ≡ map Ok (front ++ end_at n b ∷ []) = cc in quiet_end began rest front n b s more

  quiet_fault : (began : ℕ) (rest : Given) (front : List Piece) (x : Fault) → [] ≡ seen_from octets began None rest → map (moved f) rest ≡ map Ok front ++ Err x ∷ [] → ⊥
  quiet_fault began [] [] x s is = cc
  quiet_fault began [] (y ∷ front) x s is = cc
  quiet_fault began (Ok (WordAt p) ∷ rest) front x s is = cc
  quiet_fault began (Ok (QuoteAt p) ∷ rest) front x s is = cc
  quiet_fault began (Ok (EndAt e) ∷ rest) front x s is = cc
  quiet_fault began (Err y ∷ rest) front x s is = cc
  quiet_fault began (Ok (CommentAt p) ∷ rest) [] x s is = cc
  quiet_fault began (Ok (CommentAt p) ∷ rest) (y ∷ front) x s is =
      let more : map (moved f) rest ≡ map Ok front ++ Err x ∷ [] = cc in quiet_fault began rest front x s more

  module _ (e : EndOfEntry) (rest : Given) (none : [] ≡ seen_from octets e.at None rest) where
    -- an end after which nothing is seen is the last piece
    end_place : (found front : List Piece) (n : ℕ) (b : Bool) → map (moved f) (map Ok found ++ Ok (EndAt e) ∷ rest) ≡ map Ok (front ++ end_at n b ∷ []) → f e.at ≡ n
    end_place [] [] n b is =
        let same : record { at = f e.at; begins_blank = e.begins_blank } ≡ record { at = n; begins_blank = b } = cc in ap (λ (y : EndOfEntry). y.at) same
    end_place [] (y ∷ front) n b is =
        let more : map (moved f) rest ≡ map Ok (front ++ end_at n b ∷ []) = cc in absurd (quiet_end e.at rest front n b none more)
    end_place (x ∷ []) [] n b is = cc
    end_place (x ∷ y ∷ found) [] n b is = cc
    end_place (x ∷ found) (y ∷ front) n b is =
        let more : map (moved f) (map Ok found ++ Ok (EndAt e) ∷ rest) ≡ map Ok (front ++ end_at n b ∷ []) = cc in end_place found front n b more

    no_fault : (found front : List Piece) (x : Fault) → map (moved f) (map Ok found ++ Ok (EndAt e) ∷ rest) ≡ map Ok front ++ Err x ∷ [] → ⊥
    no_fault [] [] x is = cc
    no_fault [] (y ∷ front) x is =
        let more : map (moved f) rest ≡ map Ok front ++ Err x ∷ [] = cc in quiet_fault e.at rest front x none more
    no_fault (z ∷ found) [] x is = cc
    no_fault (z ∷ found) (y ∷ front) x is =
        let more : map (moved f) (map Ok found ++ Ok (EndAt e) ∷ rest) ≡ map Ok front ++ Err x ∷ [] = cc in no_fault found front x more

pub nothing_behind : (octets : List ℕ) (given : Given) (found : List Piece) (e : EndOfEntry) (rest : Given) → AreItemsOf octets given → given ≡ map Ok found ++ Ok (EndAt e) ∷ rest
    → [] ≡ seen_from octets e.at None rest → drop e.at octets ≡ []
nothing_behind octets given found e rest g is none =
    ⊎_elim
    (λ w.
    let last = last_piece (encode_utf8_all octets) w.found w.placed in
    all_before octets e.at (end_place octets (place_of octets) e rest none found last.0 (length (encode_utf8_all octets)) last.1 (ap (map (moved (place_of octets))) (sym is) ∙ w.is ∙ ap (map Ok) last.2)))
    (λ f. absurd (no_fault octets (place_of octets) e rest none found f.found f.fault (ap (map (moved (place_of octets))) (sym is) ∙ f.is)))
    g.0
