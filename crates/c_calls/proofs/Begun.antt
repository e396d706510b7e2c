-- An entry that is not the first begins after a line end, before which the text splits.
use Rattle.std.proofs.Common.{◌≡◌, ◌<◌, ◌≤◌, ◌+◌, ℕ, zero, suc, Bool, true, false, ◌&&◌, List, [], ◌∷◌, ◌++◌, length, take, drop, refl, sym, ap, subst, ◌∙◌, arith}
use Rattle.std.proofs.Common.{append-nil, append_assoc, length-append, take_all, inl, inr, ◌⊎◌, Result, Ok, Err}
use Rattle.std.specs.Prelude.{Some, None, map, encode_utf8_all}
use Rattle.std.specs.List.{flat_map}
use Rattle.std.proofs.lemmas.Bool.{and_parts, and_from}
use Rattle.std.proofs.lemmas.List.{length-map, length-take-le, take-append-drop}
use Rattle.std.proofs.lemmas.Str.{encodes-append}
use Rattle.std.proofs.Math.Seq.{take-append-add}
use Rattle.dns_lexer.specs.Lexeme.{Lexeme, Blank, Line, Open, Close, Note, Word, Quote, lexeme_bytes, is_lexeme}
use Rattle.dns_lexer.specs.Unclosed.{IsOpener}
use Rattle.dns_lexer.specs.Pieces.{AreOctets, AreItemsOf, IsPieces, Reads, end_at, moved, pieces, place_of}
use Rattle.dns_lexer.specs.Splitting.{Entries, Splits, are_lexemes, entries, may_precede, nests}
use Rattle.dns_lexer.specs.declared.pieces.Fault.{Fault as TextFault}
use Rattle.dns_lexer.specs.declared.pieces.Piece.{Piece}
use Rattle.dns_lexer.specs.declared.pieces.Piece.TheVariants.{End as EndAt}
use Rattle.dns_lexer.proofs.Blocks.{entries_stay, first_fault}
use Rattle.dns_lexer.proofs.FaultJoins.{opener_joined}
use Rattle.dns_lexer.proofs.PieceGiven.{first_of, tail_of as given_tail}
use Rattle.dns_lexer.proofs.Joins.{join_bytes, last_before, split_joined}

abbrev Given : Type 0
Given = List (Result Piece TextFault)

-- lexemes that end with a line end
record EndsInLine (d : ℕ) (ls : List Lexeme) : Type 0 where
  front : List Lexeme
  has_cr : Bool
  back : List Lexeme
  is : ls ≡ front ++ Line has_cr ∷ back
  nested : nests d front ≡ true
  none : flat_map lexeme_bytes back ≡ []

one_before : (l : Lexeme) (ls : List Lexeme) (d d' : ℕ) → ((more : List Lexeme) → nests d (l ∷ more) ≡ nests d' more) → EndsInLine d' ls → EndsInLine d (l ∷ ls)
one_before l ls d d' n e = record { front = l ∷ e.front; has_cr = e.has_cr; back = e.back; is = ap (λ x. l ∷ x) e.is; nested = n e.front ∙ e.nested; none = e.none }

none_of : (l : List ℕ) → length l ≤ 0 → l ≡ []
none_of [] h = refl
none_of (x ∷ l) h = absurd (omega (arith, h))

abbrev place_in : List Piece → ℕ
place_in (EndAt p ∷ ps) = p.at
place_in _ = 0

abbrev tail_of : List Piece → List Piece
tail_of [] = []
tail_of (p ∷ ps) = ps

further : (l : Lexeme) (ls : List Lexeme) (at k : ℕ) → at + length (flat_map lexeme_bytes (l ∷ ls)) ≤ k → at + length (lexeme_bytes l) + length (flat_map lexeme_bytes ls) ≤ k
further l ls at k h = omega (arith, h, length-append (lexeme_bytes l) (flat_map lexeme_bytes ls))

abbrev LineLast : List Lexeme → Type 0
LineLast ls = (at d : ℕ) (b : Bool) (found more : List Piece) (k : ℕ) (t : Bool) → nests d ls ≡ true → pieces at d b ls ≡ found ++ end_at k t ∷ more → 0 < length more
    → at + length (flat_map lexeme_bytes ls) ≤ k → EndsInLine d ls

line_last : (ls : List Lexeme) → LineLast ls
line_last [] at d b found more k t n is some far = absurd (omega (arith, ap length is, length-append found (end_at k t ∷ more), some))
line_last (Open ∷ ls) at d b found more k t n is some far =
    one_before Open ls d (suc d) (λ m. refl) (line_last ls (at + length (lexeme_bytes Open)) (suc d) b found more k t n is some (further Open ls at k far))
line_last (Close ∷ ls) at zero b found more k t n is some far = cc
line_last (Close ∷ ls) at (suc d) b found more k t n is some far =
    one_before Close ls (suc d) d (λ m. refl) (line_last ls (at + length (lexeme_bytes Close)) d b found more k t n is some (further Close ls at k far))
line_last (Line r ∷ ls) at zero b [] more k t n is some far =
    let here : at + length (lexeme_bytes (Line r)) ≡ k = ap place_in is in
    record { front = []; has_cr = r; back = ls; is = refl; nested = refl; none = none_of (flat_map lexeme_bytes ls) (omega (arith, here, further (Line r) ls at k far)) }
line_last (Line r ∷ ls) at zero b (x ∷ found) more k t n is some far =
    one_before (Line r) ls zero zero (λ m. refl) (line_last ls (at + length (lexeme_bytes (Line r))) zero _ found more k t n (ap tail_of is) some (further (Line r) ls at k far))
line_last (Line r ∷ ls) at (suc d) b found more k t n is some far =
    one_before (Line r) ls (suc d) (suc d) (λ m. refl) (line_last ls (at + length (lexeme_bytes (Line r))) (suc d) b found more k t n is some (further (Line r) ls at k far))
line_last (Blank c ∷ ls) at d b found more k t n is some far =
    one_before (Blank c) ls d d (λ m. refl) (line_last ls (at + length (lexeme_bytes (Blank c))) d b found more k t n is some (further (Blank c) ls at k far))
line_last (Note cs ∷ ls) at d b [] more k t n is some far = cc
line_last (Note cs ∷ ls) at d b (x ∷ found) more k t n is some far =
    one_before (Note cs) ls d d (λ m. refl) (line_last ls (at + length (lexeme_bytes (Note cs))) d b found more k t n (ap tail_of is) some (further (Note cs) ls at k far))
line_last (Word s ss ∷ ls) at d b [] more k t n is some far = cc
line_last (Word s ss ∷ ls) at d b (x ∷ found) more k t n is some far =
    one_before (Word s ss) ls d d (λ m. refl) (line_last ls (at + length (lexeme_bytes (Word s ss))) d b found more k t n (ap tail_of is) some (further (Word s ss) ls at k far))
line_last (Quote ss ∷ ls) at d b [] more k t n is some far = cc
line_last (Quote ss ∷ ls) at d b (x ∷ found) more k t n is some far =
    one_before (Quote ss) ls d d (λ m. refl) (line_last ls (at + length (lexeme_bytes (Quote ss))) d b found more k t n (ap tail_of is) some (further (Quote ss) ls at k far))

front_lexemes : (ls more : List Lexeme) (r : Bool) → are_lexemes (ls ++ Line r ∷ more) ≡ true → are_lexemes ls ≡ true
front_lexemes [] more r h = refl
front_lexemes (l ∷ ls) more r h =
    let p = and_parts (is_lexeme l && may_precede l (ls ++ Line r ∷ more)) (are_lexemes (ls ++ Line r ∷ more)) h in
    let q = and_parts (is_lexeme l) (may_precede l (ls ++ Line r ∷ more)) p.0 in
    and_from _ _ (and_from _ _ q.0 (last_before l ls more r q.1)) (front_lexemes ls more r p.1)

-- a text that splits, and a line end after it
abbrev pub SplitsBeforeLine : List ℕ → Type 0
SplitsBeforeLine text = (x : List ℕ) × (r : Bool) × (e : Entries) × (text ≡ x ++ lexeme_bytes (Line r)) × Splits x e

before_line : (text : List ℕ) (found more : List Piece) (k : ℕ) (t : Bool) → IsPieces text (found ++ end_at k t ∷ more) → 0 < length more → length text ≤ k → SplitsBeforeLine text
before_line text found more k t p some far =
    let e = line_last p.lexemes 0 0 _ found more k t p.nested p.placed some (omega (arith, far, ap length p.spelled)) in
    let v = front_lexemes e.front e.back e.has_cr (ap are_lexemes (sym e.is) ∙ p.valid) in (
      flat_map lexeme_bytes e.front,
      e.has_cr,
      entries 0 e.front,
      sym p.spelled ∙ ap (flat_map lexeme_bytes) e.is ∙ join_bytes e.front e.back e.has_cr ∙ ap (λ l. flat_map lexeme_bytes e.front ++ (lexeme_bytes (Line e.has_cr) ++ l)) e.none
          ∙ ap (λ l. flat_map lexeme_bytes e.front ++ l) (append-nil (lexeme_bytes (Line e.has_cr))),
      record { lexemes = e.front; spelled = refl; valid = v; nested = e.nested; cut = refl },
    )

-- pieces among those of the text
found_split : (g : ℕ → ℕ) (front : List Piece) (e : ℕ) (b : Bool) (rest : Given) (found : List Piece) → map (moved g) (map Ok front ++ Ok (end_at e b) ∷ rest) ≡ map Ok found
    → (first : List Piece) × (more : List Piece) × (found ≡ first ++ end_at (g e) b ∷ more) × (length more ≡ length rest)
found_split g [] e b rest [] h = cc
found_split g [] e b rest (q ∷ found) h = ([], found, ap (λ p. p ∷ found) (sym (ap (first_of q) h)), sym (length-map found _) ∙ ap length (sym (ap given_tail h)) ∙ length-map rest _)
found_split g (p ∷ front) e b rest [] h = cc
found_split g (p ∷ front) e b rest (q ∷ found) h = let r = found_split g front e b rest found (ap given_tail h) in (q ∷ r.0, r.1, ap (λ l. q ∷ l) r.2, r.3)

no_fault : (g : ℕ → ℕ) (front : List Piece) (p q : Piece) → first_fault (map (moved g) (map Ok front ++ Ok p ∷ Ok q ∷ [])) ≡ None
no_fault g [] p q = refl
no_fault g (x ∷ front) p q = no_fault g front p q

last_fault : (found : List Piece) (f : TextFault) → first_fault (map Ok found ++ Err f ∷ []) ≡ Some f
last_fault [] f = refl
last_fault (p ∷ found) f = last_fault found f

nothing_given : AreItemsOf [] (Ok (end_at 0 false) ∷ [])
nothing_given = (inl (record { found = end_at 0 false ∷ []; is = refl; placed = record { lexemes = []; spelled = refl; valid = refl; nested = refl; placed = refl } }), (omega arith, tt))

-- the octets up to the end of an entry that is not the last
pub ends_with_line : (octets : List ℕ) (alone left : Given) (front : List Piece) (end : ℕ) (blank : Bool) → AreOctets octets → end ≤ length octets
    → alone ≡ map Ok front ++ Ok (end_at end blank) ∷ left → 0 < length left → AreItemsOf octets alone → SplitsBeforeLine (encode_utf8_all (take end octets))
ends_with_line octets alone left front end blank o fits is some g = go (subst (λ l. AreItemsOf l given) (append-nil begin) stay).0
  where
    begin : List ℕ
    begin = take end octets

    given : Given
    given = map Ok front ++ Ok (end_at end blank) ∷ Ok (end_at (end + 0) false) ∷ []

    stay : AreItemsOf (begin ++ []) given
    stay = entries_stay octets [] front end blank left (Ok (end_at 0 false) ∷ []) o refl (subst (AreItemsOf octets) is g) some nothing_given

    whole : place_of begin end ≡ length (encode_utf8_all begin)
    whole = ap (λ l. length (encode_utf8_all l)) (take_all end begin (omega (arith, length-take-le end octets fits)))

    go : Reads (encode_utf8_all begin) (map (moved (place_of begin)) given) → SplitsBeforeLine (encode_utf8_all begin)
    go (inl w) =
        let s = found_split (place_of begin) front end blank (Ok (end_at (end + 0) false) ∷ []) w.found w.is in
        before_line (encode_utf8_all begin) s.0 s.1 (place_of begin end) blank (subst (IsPieces (encode_utf8_all begin)) s.2 w.placed) (omega (arith, s.3)) (omega (arith, whole))
    go (inr f) =
        let none : None ≡ Some f.fault = sym (no_fault (place_of begin) front (end_at end blank) (end_at (end + 0) false)) ∙ ap first_fault f.is ∙ last_fault f.found f.fault in
        cc

-- an entry begins at this offset
abbrev pub Begins : List ℕ → ℕ → Type 0
Begins text at = (at ≡ 0) ⊎ SplitsBeforeLine (encode_utf8_all (take at text))

module _ (text : List ℕ) (at : ℕ) (fits : at ≤ length text) where
  taken : (i : ℕ) → take (at + i) text ≡ take at text ++ take i (drop at text)
  taken i =
      ap (take (at + i)) (sym (take-append-drop at text)) ∙ ap (λ n. take (n + i) (take at text ++ drop at text)) (sym (length-take-le at text fits))
      ∙ take-append-add (take at text) (drop at text) i

  encoded : (i : ℕ) → encode_utf8_all (take (at + i) text) ≡ encode_utf8_all (take at text) ++ encode_utf8_all (take i (drop at text))
  encoded i = ap encode_utf8_all (taken i) ∙ encodes-append (take at text) (take i (drop at text))

  placed : (i : ℕ) → place_of text (at + i) ≡ length (encode_utf8_all (take at text)) + place_of (drop at text) i
  placed i = ap length (encoded i) ∙ length-append (encode_utf8_all (take at text)) (encode_utf8_all (take i (drop at text)))

  -- the next entry begins where one ends
  pub begins_next : (end : ℕ) → Begins text at → SplitsBeforeLine (encode_utf8_all (take end (drop at text))) → Begins text (at + end)
  begins_next end (inl z) (x, r, e, is, s) =
      let none : encode_utf8_all (take at text) ≡ [] = ap (λ n. encode_utf8_all (take n text)) z in
      inr (x, r, e, encoded end ∙ ap (λ l. l ++ encode_utf8_all (take end (drop at text))) none ∙ is, s)
  begins_next end (inr (y, q, f, this, t)) (x, r, e, is, s) =
      inr (
        y ++ (lexeme_bytes (Line q) ++ x),
        r,
        f ++ e,
        encoded end ∙ ap (λ l. l ++ encode_utf8_all (take end (drop at text))) this ∙ ap (λ l. (y ++ lexeme_bytes (Line q)) ++ l) is
            ∙ append_assoc y (lexeme_bytes (Line q)) (x ++ lexeme_bytes (Line r)) ∙ ap (λ l. y ++ l) (sym (append_assoc (lexeme_bytes (Line q)) x (lexeme_bytes (Line r))))
            ∙ sym (append_assoc y (lexeme_bytes (Line q) ++ x) (lexeme_bytes (Line r))),
        split_joined y x q f e t s,
      )

  -- a parenthesis that is left open from this offset on is left open in the text
  pub opener_of_text : (i : ℕ) → Begins text at → IsOpener (encode_utf8_all (drop at text)) (place_of (drop at text) i) → IsOpener (encode_utf8_all text) (place_of text (at + i))
  opener_of_text i (inl z) o =
      let same : at + i ≡ i = omega (arith, z) in
      subst (λ n. IsOpener (encode_utf8_all text) (place_of text n)) (sym same) (subst (λ n. IsOpener (encode_utf8_all (drop n text)) (place_of (drop n text) i)) z o)
  opener_of_text i (inr (x, r, e, is, s)) o =
      let rest : List ℕ = encode_utf8_all (drop at text) in
      let all : x ++ (lexeme_bytes (Line r) ++ rest) ≡ encode_utf8_all text =
      sym (append_assoc x (lexeme_bytes (Line r)) rest) ∙ ap (λ l. l ++ rest) (sym is) ∙ sym (encodes-append (take at text) (drop at text)) ∙ ap encode_utf8_all (take-append-drop at text) in
      let place : length x + length (lexeme_bytes (Line r)) + place_of (drop at text) i ≡ place_of text (at + i) = omega (arith, placed i, ap length is, length-append x (lexeme_bytes (Line r))) in
      subst (λ n. IsOpener (encode_utf8_all text) n) place
      (subst (λ l. IsOpener l (length x + length (lexeme_bytes (Line r)) + place_of (drop at text) i)) all (opener_joined x rest r e (place_of (drop at text) i) s o))
