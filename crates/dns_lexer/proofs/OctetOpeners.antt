-- UTF-8 text and its octets as characters split alike, and leave the same parentheses open.
use Rattle.std.proofs.Common.{◌≡◌, ◌↔◌, ℕ, suc, ◌+◌, ◌<◌, ◌≤◌, true, List, [], ◌∷◌, ◌++◌, length, take, drop, replicate, get_or, sym, ap, ◌∙◌, subst, arith, inl, inr, IsUtf8}
use Rattle.std.proofs.Common.{length-append, get_or-drop}
use Rattle.std.specs.Prelude.{map, encode_utf8_all}
use Rattle.std.specs.List.{flat_map}
use Rattle.std.proofs.lemmas.List.{take-append-drop}
use Rattle.std.proofs.lemmas.Str.{encodes-append, char_from_byte, IsUtf8-take, IsCharBoundary-before_ascii}
use Rattle.std.proofs.Math.Seq.{take-append_seam, drop-append_seam}
use lib.Utf8.{scalars}
use Rattle.dns_lexer.specs.declared.reader.Mode.TheVariants.{Outside}
use Rattle.dns_lexer.specs.declared.pieces.Piece.{Piece}
use Rattle.dns_lexer.specs.Lexeme.{characters}
use Rattle.dns_lexer.specs.Splitting.{Entries, Splits}
use Rattle.dns_lexer.specs.Unclosed.{IsOpener, LacksClosing}
use Rattle.dns_lexer.specs.Pieces.{Reads, tokens_by_entry, moved_piece, place_of}
use Rattle.dns_lexer.specs.Run.{first_blank, run}
use Rattle.dns_lexer.proofs.Complete.{bytes_all}
use Rattle.dns_lexer.proofs.Viable.{low_encodes, low_scalars, low_close, scalars_both, scalars_left}
use Rattle.dns_lexer.proofs.FaultJoins.{lexemes_scalars}
use Rattle.dns_lexer.proofs.PieceFaults.{reads}
use Rattle.dns_lexer.proofs.PieceMoved.{mono}
use Rattle.dns_lexer.proofs.PieceSplit.{pieces_split, split_pieces}
use Rattle.dns_lexer.proofs.Agree.{octets_have_pieces, octets_are_bad}

pub splits_utf8 : (text : List ℕ) (e : Entries) → Splits text e → IsUtf8 text
splits_utf8 text e s = (flat_map characters s.lexemes, (lexemes_scalars s.lexemes s.valid, sym (bytes_all s.lexemes) ∙ s.spelled))

pub octets_split : (text : List ℕ) (e : Entries) → scalars text ≡ true → Splits text e → (f : Entries) × Splits (encode_utf8_all text) f
octets_split text e ok s =
    let p = split_pieces text e s in
    let found : List Piece = map (moved_piece (place_of text)) p.0 in
    (tokens_by_entry (encode_utf8_all text) found, pieces_split (encode_utf8_all text) found (octets_have_pieces text ok p.0 p.1))

pub text_splits : (text : List ℕ) (f : Entries) → IsUtf8 text → scalars text ≡ true → Splits (encode_utf8_all text) f → (e : Entries) × Splits text e
text_splits text f u ok s = go (reads text u)
  where
    go : Reads text (run Outside 0 0 0 (first_blank text) text) → (e : Entries) × Splits text e
    go (inl w) = (tokens_by_entry text w.found, pieces_split text w.found w.placed)
    go (inr b) = elim ((octets_are_bad text u ok b.fault.at b.is_fault.bad).splits_not f s) [ ]

-- the octets before and after an offset
pub taken : (octets : List ℕ) (i : ℕ) → take (place_of octets i) (encode_utf8_all octets) ≡ encode_utf8_all (take i octets)
taken octets i =
    ap (λ l. take (place_of octets i) (encode_utf8_all l)) (sym (take-append-drop i octets)) ∙ ap (take (place_of octets i)) (encodes-append (take i octets) (drop i octets))
    ∙ take-append_seam (encode_utf8_all (take i octets)) (encode_utf8_all (drop i octets))

pub dropped : (octets : List ℕ) (i : ℕ) → drop (place_of octets i) (encode_utf8_all octets) ≡ encode_utf8_all (drop i octets)
dropped octets i =
    ap (λ l. drop (place_of octets i) (encode_utf8_all l)) (sym (take-append-drop i octets)) ∙ ap (drop (place_of octets i)) (encodes-append (take i octets) (drop i octets))
    ∙ drop-append_seam (encode_utf8_all (take i octets)) (encode_utf8_all (drop i octets))

place_within : (octets : List ℕ) (i : ℕ) → place_of octets i ≤ length (encode_utf8_all octets)
place_within octets i =
    let e : length (encode_utf8_all octets) ≡ length (encode_utf8_all (take i octets)) + length (encode_utf8_all (drop i octets)) =
    ap (λ l. length (encode_utf8_all l)) (sym (take-append-drop i octets)) ∙ ap length (encodes-append (take i octets) (drop i octets))
    ∙ length-append (encode_utf8_all (take i octets)) (encode_utf8_all (drop i octets)) in
    omega (arith, e)

front_scalars : (text : List ℕ) (i : ℕ) → scalars text ≡ true → scalars (take i text) ≡ true
front_scalars text i ok = scalars_left (take i text) (drop i text) (ap scalars (take-append-drop i text) ∙ ok)

-- the same parentheses are open
module _ (text : List ℕ) (u : IsUtf8 text) (ok : scalars text ≡ true) where
  abbrev tail : ℕ → List ℕ
  tail n = 10 ∷ replicate (suc n) 41

  with_tail : (n : ℕ) → encode_utf8_all (text ++ tail n) ≡ encode_utf8_all text ++ tail n
  with_tail n = encodes-append text (tail n) ∙ ap (λ l. encode_utf8_all text ++ l) (low_encodes (tail n) (low_close n))

  both_scalars : (xs : List ℕ) (n : ℕ) → scalars xs ≡ true → scalars (xs ++ tail n) ≡ true
  both_scalars xs n h = scalars_both xs (tail n) h (low_scalars (tail n) (low_close n))

  both_utf8 : (n : ℕ) → IsUtf8 (text ++ tail n)
  both_utf8 n = (u.0 ++ tail n, (both_scalars u.0 n u.1.0, encodes-append u.0 (tail n) ∙ ap (λ l. l ++ encode_utf8_all (tail n)) u.1.1 ∙ ap (λ l. text ++ l) (low_encodes (tail n) (low_close n))))

  pub left_open_alike : LacksClosing (encode_utf8_all text) ↔ LacksClosing text
  left_open_alike = (
    λ h. let s = text_splits (text ++ tail h.0) h.1 (both_utf8 h.0) (both_scalars text h.0 ok) (subst (λ l. Splits l h.1) (sym (with_tail h.0)) h.2) in (h.0, s.0, s.1),
    λ h. let s = octets_split (text ++ tail h.0) h.1 (both_scalars text h.0 ok) h.2 in (h.0, s.0, subst (λ l. Splits l s.0) (with_tail h.0) s.1),
  )

  first_open : (l inside : List ℕ) → encode_utf8_all l ≡ 40 ∷ inside → (rest : List ℕ) × (l ≡ 40 ∷ rest)
  first_open [] inside e = cc
  first_open (x ∷ l) inside e = let is : x ≡ 40 = char_from_byte (40 ∷ inside) (encode_utf8_all l) x (sym e) (omega arith) (omega arith) in (l, ap (λ c. c ∷ l) is)

  -- and opened alike
  pub opener_alike : (i : ℕ) → i < length text → IsOpener (encode_utf8_all text) (place_of text i) → IsOpener text i
  opener_alike i within o =
      let inside = first_open (drop i text) o.inside (sym (dropped text i) ∙ o.opens) in
      let here : get_or text i 0 ≡ 40 = ap (λ n. get_or text n 0) (omega arith) ∙ sym (get_or-drop i text 0 0) ∙ ap (λ l. get_or l 0 0) inside.1 in
      let front : IsUtf8 (take i text) = IsUtf8-take text i u (IsCharBoundary-before_ascii text i within (omega (arith, here))) in
      let s = text_splits (take i text) o.found front (front_scalars text i ok) (subst (λ l. Splits l o.found) (taken text i) o.splits) in
      record {
        inside = inside.0;
        opens = inside.1;
        found = s.0;
        splits = s.1;
        never_closed = λ j more fits e t.
            let f = octets_split (take j text) e (front_scalars text j ok) t in
            o.never_closed (place_of text j) (mono text i j more fits) (place_within text j) f.0 (subst (λ l. Splits l f.0) (sym (taken text j)) f.1);
      }
