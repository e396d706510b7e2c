-- UTF-8 text and its octets as characters have the same pieces.
use Rattle.std.proofs.Common.{◌≡◌, ℕ, suc, ◌<◌, ◌^◌, true, List, [], ◌∷◌, ◌++◌, get_or, refl, sym, ap, ◌∙◌, subst, arith, inl, inr, IsUtf8}
use Rattle.std.specs.Prelude.{map, Result, Ok, Err, encode_utf8_all}
use lib.Utf8.{scalars, low_scalar}
use Rattle.std.proofs.lemmas.Bool.{and_from, cases_lt}
use Rattle.dns_lexer.specs.declared.reader.Mode.TheVariants.{Outside}
use Rattle.dns_lexer.specs.declared.pieces.Piece.{Piece}
use Rattle.dns_lexer.specs.declared.pieces.Fault.{Fault}
use Rattle.dns_lexer.specs.Viable.{IsBad}
use Rattle.dns_lexer.specs.Pieces.{IsPieces, moved_piece, moved, place_of, Reads, tokens_by_entry, IsOctetPieces}
use Rattle.dns_lexer.specs.Run.{first_blank, run}
use Rattle.dns_lexer.proofs.PieceFaults.{reads}
use Rattle.dns_lexer.proofs.PieceWhole.{pieces_run}
use Rattle.dns_lexer.proofs.PieceMoved.{octets_run}
use Rattle.dns_lexer.proofs.PieceSplit.{pieces_split, same_found}

pub small_scalars : (l : List ℕ) → ((i : ℕ) → get_or l i 0 < 2 ^ 8) → scalars l ≡ true
small_scalars [] h = refl
small_scalars (x ∷ l) h = and_from _ _ (low_scalar x (omega (arith, h 0))) (small_scalars l (λ i. h (suc i)))

moved_oks : (f : ℕ → ℕ) (found : List Piece) → map (moved f) (map Ok found) ≡ map Ok (map (moved_piece f) found)
moved_oks f [] = refl
moved_oks f (p ∷ found) = ap (λ l. Ok (moved_piece f p) ∷ l) (moved_oks f found)

-- pieces and an error are two
no_fault : (found other : List Piece) (f : Fault) → map Ok found ≡ map Ok other ++ Err f ∷ [] → ⊥
no_fault [] [] f h = cc
no_fault [] (q ∷ other) f h = cc
no_fault (p ∷ found) [] f h = cc
no_fault (p ∷ found) (q ∷ other) f h = let rest : map Ok found ≡ map Ok other ++ Err f ∷ [] = cc in no_fault found other f rest

-- what is read without an error are the pieces
read_pieces : (text : List ℕ) (given : List (Result Piece Fault)) (found : List Piece) → Reads text given → given ≡ map Ok found → IsPieces text found
read_pieces text given found (inl w) h = subst (IsPieces text) (same_found w.found found (sym w.is ∙ h)) w.placed
read_pieces text given found (inr f) h = elim (no_fault found f.found f.fault (sym h ∙ f.is)) [ ]

pub octets_have_pieces : (text : List ℕ) → scalars text ≡ true → (found : List Piece) → IsPieces text found → IsOctetPieces text found
octets_have_pieces text ok found p =
    read_pieces (encode_utf8_all text) (run Outside 0 0 0 (first_blank (encode_utf8_all text)) (encode_utf8_all text)) (map (moved_piece (place_of text)) found)
    (reads (encode_utf8_all text) (text, (ok, refl)))
    (octets_run text ∙ ap (map (moved (place_of text))) (pieces_run text found p) ∙ moved_oks (place_of text) found)

-- the pieces of the text that octets spell are those of the octets, moved
pub pieces_of_octets : (octets : List ℕ) (found : List Piece) → IsPieces (encode_utf8_all octets) found → (given : List (Result Piece Fault)) × (map (moved (place_of octets)) given ≡ map Ok found)
pieces_of_octets octets found p = (run Outside 0 0 0 (first_blank octets) octets, sym (octets_run octets) ∙ pieces_run (encode_utf8_all octets) found p)

-- a text is bad at one offset
pub bad_once : (text : List ℕ) (i j : ℕ) → IsBad text i → IsBad text j → i ≡ j
bad_once text i j a b = elim (cases_lt i j) [
  | inl less ↦ absurd (a.at.longest j less b.at.within b.at.viable)
  | inr most ↦ elim (cases_lt j i) [ inl less ↦ absurd (b.at.longest i less a.at.within a.at.viable) | inr least ↦ omega arith ]
]

last_place : ℕ → List (Result Piece Fault) → ℕ
last_place n [] = n
last_place n (Ok p ∷ given) = last_place n given
last_place n (Err f ∷ given) = f.at

oks_place : (n : ℕ) (found : List Piece) (f : Fault) → last_place n (map Ok found ++ Err f ∷ []) ≡ f.at
unfolding last_place
oks_place n [] f = refl
oks_place n (p ∷ found) f = oks_place n found f

moved_place : (g : ℕ → ℕ) (n : ℕ) (found : List Piece) (f : Fault) → last_place n (map (moved g) (map Ok found ++ Err f ∷ [])) ≡ g f.at
unfolding last_place
moved_place g n [] f = refl
moved_place g n (p ∷ found) f = moved_place g n found f

moved_fault : (g : ℕ → ℕ) (found other : List Piece) (f : Fault) → map (moved g) (map Ok found ++ Err f ∷ []) ≡ map Ok other → ⊥
moved_fault g [] [] f h = cc
moved_fault g [] (q ∷ other) f h = cc
moved_fault g (p ∷ found) [] f h = cc
moved_fault g (p ∷ found) (q ∷ other) f h = let rest : map (moved g) (map Ok found ++ Err f ∷ []) ≡ map Ok other = cc in moved_fault g found other f rest

pub octets_are_bad : (text : List ℕ) → IsUtf8 text → scalars text ≡ true → (at : ℕ) → IsBad text at → IsBad (encode_utf8_all text) (place_of text at)
octets_are_bad text u ok at bad = go (reads text u) (reads (encode_utf8_all text) (text, (ok, refl)))
  where
    go : Reads text (run Outside 0 0 0 (first_blank text) text) → Reads (encode_utf8_all text) (run Outside 0 0 0 (first_blank (encode_utf8_all text)) (encode_utf8_all text))
        → IsBad (encode_utf8_all text) (place_of text at)
    go (inl w) r = elim (bad.splits_not (tokens_by_entry text w.found) (pieces_split text w.found w.placed)) [ ]
    go (inr f) (inl w) = elim (moved_fault (place_of text) f.found w.found f.fault (ap (map (moved (place_of text))) (sym f.is) ∙ sym (octets_run text) ∙ w.is)) [ ]
    go (inr f) (inr g) =
        let same = bad_once text at f.fault.at bad f.is_fault.bad in
        let there : g.fault.at ≡ place_of text f.fault.at =
        sym (oks_place 0 g.found g.fault) ∙ ap (last_place 0) (sym g.is ∙ octets_run text ∙ ap (map (moved (place_of text))) f.is) ∙ moved_place (place_of text) 0 f.found f.fault in
        subst (IsBad (encode_utf8_all text)) (there ∙ ap (place_of text) (sym same)) g.is_fault.bad
