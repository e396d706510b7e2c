-- The first error of octets that follow whole entries, and of octets that others follow.
use Rattle.std.proofs.Common.{◌≡◌, ℕ, zero, suc, ◌+◌, ◌-◌, ◌==◌, ◌<◌, ◌≤◌, Bool, true, false, ◌&&◌, List, [], ◌∷◌, ◌++◌, length, take, drop, refl, sym, ap, ◌∙◌, subst, arith, inl, inr, append-nil, append_assoc, length-drop}
use Rattle.std.specs.Prelude.{◌⊎◌, ⊤, map, Result, Ok, encode_utf8_all}
use Rattle.std.specs.List.{flat_map}
use Rattle.std.proofs.lemmas.Bool.{cases_eq, cases_lt, eq-eqb, ne_eqb}
use Rattle.std.proofs.lemmas.List.{drop-append-le, drop_all, map-append}
use Rattle.std.proofs.Math.Seq.{drop-append-add}
use Rattle.dns_lexer.specs.CursorStates.{blank_at}
use Rattle.dns_lexer.specs.Lexeme.{Lexeme, Blank, Line, Open, Close, Note, Word, Quote, lexeme_bytes}
use Rattle.dns_lexer.specs.Run.{first_blank}
use Rattle.dns_lexer.specs.declared.pieces.Fault.{Fault}
use Rattle.dns_lexer.specs.declared.pieces.Piece.{Piece}
use Rattle.dns_lexer.specs.declared.pieces.Piece.TheVariants.{Word as WordAt, Quote as QuoteAt, Comment as CommentAt, End as EndAt}
use Rattle.dns_lexer.specs.Pieces.{AreItemsOf, EachWithin, begins_blank, between, end_at, moved_piece, pieces, place_of, IsOctetPieces}
use Rattle.dns_lexer.proofs.PieceMoved.{mono}
use Rattle.zone_format.specs.Marks.{Mark, Token, Note as NoteMark, HasMarks, all_marks, gap_mark, gap_marks, lead, marks, shortened}
use Rattle.zone_format.proofs.Follow.{follow}
use Rattle.zone_format.proofs.Givens.{pieces_after, whole_of}
use Rattle.zone_format.proofs.Same.{marks_once}
use Rattle.zonetext_lib.proofs.Cuts.{fault_after}
use Rattle.zonetext_lib.proofs.Following.{between_back, between_front}

-- ---- marks of pieces, one list after another

abbrev tied_after : Bool → List Piece → Bool
tied_after tied [] = tied
tied_after tied (WordAt p ∷ ps) = tied_after true ps
tied_after tied (QuoteAt p ∷ ps) = tied_after true ps
tied_after tied (CommentAt p ∷ ps) = tied_after false ps
tied_after tied (EndAt p ∷ ps) = tied_after false ps

abbrev from_after : ℕ → List Piece → ℕ
from_after from [] = from
from_after from (WordAt p ∷ ps) = from_after p.end ps
from_after from (QuoteAt p ∷ ps) = from_after p.end ps
from_after from (CommentAt p ∷ ps) = from_after p.end ps
from_after from (EndAt p ∷ ps) = from_after p.at ps

marks_append : (octets : List ℕ) (tied : Bool) (from : ℕ) (xs ys : List Piece) → marks octets tied from (xs ++ ys) ≡ marks octets tied from xs ++ marks octets (tied_after tied xs) (from_after from xs) ys
marks_append octets tied from [] ys = refl
marks_append octets tied from (WordAt p ∷ xs) ys =
    let t : List Mark = Token (tied && (p.start == from)) (between octets p.start p.end) ∷ [] in
    ap (λ l. gap_marks octets from p.start ++ (t ++ l)) (marks_append octets true p.end xs ys) ∙ sym (append_assoc (gap_marks octets from p.start) (t ++ marks octets true p.end xs) _)
marks_append octets tied from (QuoteAt p ∷ xs) ys =
    let t : List Mark = Token (tied && (p.start == from)) (between octets p.start p.end) ∷ [] in
    ap (λ l. gap_marks octets from p.start ++ (t ++ l)) (marks_append octets true p.end xs ys) ∙ sym (append_assoc (gap_marks octets from p.start) (t ++ marks octets true p.end xs) _)
marks_append octets tied from (CommentAt p ∷ xs) ys =
    let t : List Mark = NoteMark (shortened (between octets p.start p.end)) ∷ [] in
    ap (λ l. gap_marks octets from p.start ++ (t ++ l)) (marks_append octets false p.end xs ys) ∙ sym (append_assoc (gap_marks octets from p.start) (t ++ marks octets false p.end xs) _)
marks_append octets tied from (EndAt p ∷ xs) ys =
    let t : List Mark = lead (blank_at octets p.at) in
    ap (λ l. gap_marks octets from p.at ++ (t ++ l)) (marks_append octets false p.at xs ys) ∙ ap (λ l. gap_marks octets from p.at ++ l) (sym (append_assoc t (marks octets false p.at xs) _))
    ∙ sym (append_assoc (gap_marks octets from p.at) (t ++ marks octets false p.at xs) _)

-- ---- of octets that others follow: entries end before the last octet

abbrev pub EndBefore : ℕ → List Piece → Type 0
EndBefore n [] = ⊤
EndBefore n (WordAt p ∷ ps) = (p.start ≤ p.end) × (p.end ≤ n) × EndBefore n ps
EndBefore n (QuoteAt p ∷ ps) = (p.start ≤ p.end) × (p.end ≤ n) × EndBefore n ps
EndBefore n (CommentAt p ∷ ps) = (p.start ≤ p.end) × (p.end ≤ n) × EndBefore n ps
EndBefore n (EndAt p ∷ ps) = (p.at < n) × EndBefore n ps

no_more : {A : Type 0} (xs : List A) (s e : ℕ) → e ≤ s → take (e - s) (drop s xs) ≡ []
no_more xs s e h = let none : e - s ≡ 0 = omega (arith, h) in ap (λ n. take n (drop s xs)) none

between_first : (x z : List ℕ) (s e : ℕ) → e ≤ length x → between (x ++ z) s e ≡ between x s e
between_first x z s e h = elim (cases_lt s e) [
  | inl less ↦ between_front x z s e (omega (arith, less)) h
  | inr most ↦ no_more (x ++ z) s e most ∙ sym (no_more x s e most)
]

blank_append : (l z : List ℕ) → 0 < length l → first_blank (l ++ z) ≡ first_blank l
blank_append [] z h = absurd (omega (arith, h))
blank_append (c ∷ l) z h = refl

blank_first : (x z : List ℕ) (at : ℕ) → at < length x → blank_at (x ++ z) at ≡ blank_at x at
blank_first x z at h = ap first_blank (drop-append-le at x z (omega (arith, h))) ∙ blank_append (drop at x) z (omega (arith, length-drop at x, h))

gap_first : (x z : List ℕ) (s e : ℕ) → e ≤ length x → gap_marks (x ++ z) s e ≡ gap_marks x s e
gap_first x z s e h = ap (flat_map gap_mark) (between_first x z s e h)

marks_first : (x z : List ℕ) (tied : Bool) (from : ℕ) (ps : List Piece) → EndBefore (length x) ps → marks (x ++ z) tied from ps ≡ marks x tied from ps
marks_first x z tied from [] w = refl
marks_first x z tied from (WordAt p ∷ ps) w =
    let g : Bool = tied && (p.start == from) in
    ap (λ l. l ++ (Token g (between (x ++ z) p.start p.end) ∷ marks (x ++ z) true p.end ps)) (gap_first x z from p.start (omega (arith, w.0, w.1)))
    ∙ ap (λ t. gap_marks x from p.start ++ (Token g t ∷ marks (x ++ z) true p.end ps)) (between_first x z p.start p.end w.1)
    ∙ ap (λ l. gap_marks x from p.start ++ (Token g (between x p.start p.end) ∷ l)) (marks_first x z true p.end ps w.2)
marks_first x z tied from (QuoteAt p ∷ ps) w =
    let g : Bool = tied && (p.start == from) in
    ap (λ l. l ++ (Token g (between (x ++ z) p.start p.end) ∷ marks (x ++ z) true p.end ps)) (gap_first x z from p.start (omega (arith, w.0, w.1)))
    ∙ ap (λ t. gap_marks x from p.start ++ (Token g t ∷ marks (x ++ z) true p.end ps)) (between_first x z p.start p.end w.1)
    ∙ ap (λ l. gap_marks x from p.start ++ (Token g (between x p.start p.end) ∷ l)) (marks_first x z true p.end ps w.2)
marks_first x z tied from (CommentAt p ∷ ps) w =
    ap (λ l. l ++ (NoteMark (shortened (between (x ++ z) p.start p.end)) ∷ marks (x ++ z) false p.end ps)) (gap_first x z from p.start (omega (arith, w.0, w.1)))
    ∙ ap (λ t. gap_marks x from p.start ++ (NoteMark (shortened t) ∷ marks (x ++ z) false p.end ps)) (between_first x z p.start p.end w.1)
    ∙ ap (λ l. gap_marks x from p.start ++ (NoteMark (shortened (between x p.start p.end)) ∷ l)) (marks_first x z false p.end ps w.2)
marks_first x z tied from (EndAt p ∷ ps) w =
    ap (λ l. l ++ (lead (blank_at (x ++ z) p.at) ++ marks (x ++ z) false p.at ps)) (gap_first x z from p.at (omega (arith, w.0)))
    ∙ ap (λ b. gap_marks x from p.at ++ (lead b ++ marks (x ++ z) false p.at ps)) (blank_first x z p.at w.0)
    ∙ ap (λ l. gap_marks x from p.at ++ (lead (blank_at x p.at) ++ l)) (marks_first x z false p.at ps w.1)

pub all_first : (x z : List ℕ) (ps : List Piece) → 0 < length x → EndBefore (length x) ps → all_marks (x ++ z) ps ≡ all_marks x ps
all_first x z ps some w = ap (λ b. lead b ++ marks (x ++ z) false 0 ps) (blank_first x z 0 some) ∙ ap (λ l. lead (blank_at x 0) ++ l) (marks_first x z false 0 ps w)

pub before_append : (n : ℕ) (xs ys : List Piece) → EndBefore n xs → EndBefore n ys → EndBefore n (xs ++ ys)
before_append n [] ys h k = k
before_append n (WordAt p ∷ xs) ys h k = (h.0, h.1, before_append n xs ys h.2 k)
before_append n (QuoteAt p ∷ xs) ys h k = (h.0, h.1, before_append n xs ys h.2 k)
before_append n (CommentAt p ∷ xs) ys h k = (h.0, h.1, before_append n xs ys h.2 k)
before_append n (EndAt p ∷ xs) ys h k = (h.0, before_append n xs ys h.1 k)

-- ---- of octets that follow others

blank_back : (b y : List ℕ) (at : ℕ) → blank_at (b ++ y) (length b + at) ≡ blank_at y at
blank_back b y at = ap first_blank (drop-append-add b y at)

gap_back : (b y : List ℕ) (s e : ℕ) → gap_marks (b ++ y) (length b + s) (length b + e) ≡ gap_marks y s e
gap_back b y s e = ap (flat_map gap_mark) (between_back b y s e)

same_back : (n s e : ℕ) → (n + s == n + e) ≡ (s == e)
same_back n s e = elim (cases_eq s e) [
  | inl is ↦ eq-eqb (n + s) (n + e) (ap (λ i. n + i) is) ∙ sym (eq-eqb s e is)
  | inr other ↦ ne_eqb (n + s) (n + e) (λ k. other (omega (arith, k))) ∙ sym (ne_eqb s e other)
]

abbrev pub onward : List ℕ → Piece → Piece
onward b = moved_piece (λ i. length b + i)

pub marks_back : (b y : List ℕ) (tied : Bool) (from : ℕ) (ps : List Piece) → marks (b ++ y) tied (length b + from) (map (onward b) ps) ≡ marks y tied from ps
marks_back b y tied from [] = refl
marks_back b y tied from (WordAt p ∷ ps) =
    let t : List ℕ = between (b ++ y) (length b + p.start) (length b + p.end) in
    let rest : List Mark = marks (b ++ y) true (length b + p.end) (map (onward b) ps) in
    ap (λ l. l ++ (Token (tied && (length b + p.start == length b + from)) t ∷ rest)) (gap_back b y from p.start)
    ∙ ap (λ g. gap_marks y from p.start ++ (Token (tied && g) t ∷ rest)) (same_back (length b) p.start from)
    ∙ ap (λ l. gap_marks y from p.start ++ (Token (tied && (p.start == from)) l ∷ rest)) (between_back b y p.start p.end)
    ∙ ap (λ l. gap_marks y from p.start ++ (Token (tied && (p.start == from)) (between y p.start p.end) ∷ l)) (marks_back b y true p.end ps)
marks_back b y tied from (QuoteAt p ∷ ps) =
    let t : List ℕ = between (b ++ y) (length b + p.start) (length b + p.end) in
    let rest : List Mark = marks (b ++ y) true (length b + p.end) (map (onward b) ps) in
    ap (λ l. l ++ (Token (tied && (length b + p.start == length b + from)) t ∷ rest)) (gap_back b y from p.start)
    ∙ ap (λ g. gap_marks y from p.start ++ (Token (tied && g) t ∷ rest)) (same_back (length b) p.start from)
    ∙ ap (λ l. gap_marks y from p.start ++ (Token (tied && (p.start == from)) l ∷ rest)) (between_back b y p.start p.end)
    ∙ ap (λ l. gap_marks y from p.start ++ (Token (tied && (p.start == from)) (between y p.start p.end) ∷ l)) (marks_back b y true p.end ps)
marks_back b y tied from (CommentAt p ∷ ps) =
    let rest : List Mark = marks (b ++ y) false (length b + p.end) (map (onward b) ps) in
    ap (λ l. l ++ (NoteMark (shortened (between (b ++ y) (length b + p.start) (length b + p.end))) ∷ rest)) (gap_back b y from p.start)
    ∙ ap (λ l. gap_marks y from p.start ++ (NoteMark (shortened l) ∷ rest)) (between_back b y p.start p.end)
    ∙ ap (λ l. gap_marks y from p.start ++ (NoteMark (shortened (between y p.start p.end)) ∷ l)) (marks_back b y false p.end ps)
marks_back b y tied from (EndAt p ∷ ps) =
    let rest : List Mark = marks (b ++ y) false (length b + p.at) (map (onward b) ps) in
    ap (λ l. l ++ (lead (blank_at (b ++ y) (length b + p.at)) ++ rest)) (gap_back b y from p.at)
    ∙ ap (λ c. gap_marks y from p.at ++ (lead c ++ rest)) (blank_back b y p.at)
    ∙ ap (λ l. gap_marks y from p.at ++ (lead (blank_at y p.at) ++ l)) (marks_back b y false p.at ps)

pub each_first : (n : ℕ) (xs : List Piece) (given : List (Result Piece Fault)) → EachWithin n (map Ok xs ++ given) → EachWithin n (map Ok xs)
each_first n [] given w = tt
each_first n (x ∷ xs) given w = (w.0, each_first n xs given w.1)

-- ---- each entry but the last ends after the piece before it

abbrev Rises : ℕ → List Piece → Type 0
Rises n [] = ⊤
Rises n (WordAt p ∷ ps) = (n ≤ p.end) × Rises p.end ps
Rises n (QuoteAt p ∷ ps) = (n ≤ p.end) × Rises p.end ps
Rises n (CommentAt p ∷ ps) = (n ≤ p.end) × Rises p.end ps
Rises n (EndAt p ∷ ps) = ((ps ≡ []) ⊎ (n < p.at)) × Rises p.at ps

line_some : (r : Bool) → 0 < length (lexeme_bytes (Line r))
unfolding lib.Utf8.encode
line_some true = let two : length (lexeme_bytes (Line true)) ≡ 2 = refl in omega (arith, two)
line_some false = let one : length (lexeme_bytes (Line false)) ≡ 1 = refl in omega (arith, one)

rises : (ls : List Lexeme) (n at d : ℕ) (b : Bool) → n ≤ at → Rises n (pieces at d b ls)
rises [] n at d b h = (inl refl, tt)
rises (Open ∷ ls) n at d b h = rises ls n _ (suc d) b (omega arith)
rises (Close ∷ ls) n at zero b h = rises ls n _ zero b (omega arith)
rises (Close ∷ ls) n at (suc d) b h = rises ls n _ d b (omega arith)
rises (Line r ∷ ls) n at zero b h = (inr (omega (arith, h, line_some r)), rises ls _ _ zero _ (omega arith))
rises (Line r ∷ ls) n at (suc d) b h = rises ls n _ (suc d) b (omega arith)
rises (Blank t ∷ ls) n at d b h = rises ls n _ d b (omega arith)
rises (Note cs ∷ ls) n at d b h = (omega arith, rises ls _ _ d b (omega arith))
rises (Word s ss ∷ ls) n at d b h = (omega arith, rises ls _ _ d b (omega arith))
rises (Quote ss ∷ ls) n at d b h = (omega arith, rises ls _ _ d b (omega arith))

abbrev two_ends : ℕ → Bool → Bool → List Piece
two_ends n b c = end_at n b ∷ end_at n c ∷ []

below_ends : (zs : List Piece) (g : ℕ → ℕ) (m n : ℕ) (b c : Bool) → Rises m (map (moved_piece g) (zs ++ two_ends n b c)) → m < g n
below_ends [] g m n b c (inl e, h) = cc
below_ends [] g m n b c (inr less, h) = less
below_ends (WordAt p ∷ zs) g m n b c (h, k) = omega (arith, h, below_ends zs g (g p.end) n b c k)
below_ends (QuoteAt p ∷ zs) g m n b c (h, k) = omega (arith, h, below_ends zs g (g p.end) n b c k)
below_ends (CommentAt p ∷ zs) g m n b c (h, k) = omega (arith, h, below_ends zs g (g p.end) n b c k)
below_ends (EndAt p ∷ []) g m n b c (inl e, k) = cc
below_ends (EndAt p ∷ z ∷ zs) g m n b c (inl e, k) = cc
below_ends (EndAt p ∷ zs) g m n b c (inr less, k) = omega (arith, less, below_ends zs g (g p.at) n b c k)

place_le : (l : List ℕ) (i j : ℕ) → i ≤ j → j ≤ length l → place_of l i ≤ place_of l j
place_le l i j h within = elim (cases_lt i j) [
  | inl less ↦ omega (arith, mono l i j less within)
  | inr most ↦ let same : i ≡ j = omega (arith, h, most) in omega (arith, ap (place_of l) same)
]

lt_of_place : (l : List ℕ) (i j : ℕ) → i ≤ length l → place_of l i < place_of l j → i < j
lt_of_place l i j within h = elim (cases_lt i j) [ inl less ↦ less | inr most ↦ absurd (omega (arith, h, place_le l j i most within)) ]

ends_before : (b : List ℕ) (zs : List Piece) (m : ℕ) (c d : Bool) → EachWithin (length b) (map Ok zs) → Rises m (map (moved_piece (place_of b)) (zs ++ two_ends (length b) c d)) → EndBefore (length b) zs
ends_before b [] m c d w h = tt
ends_before b (WordAt p ∷ zs) m c d w h = (w.0.0, w.0.1, ends_before b zs (place_of b p.end) c d w.1 h.1)
ends_before b (QuoteAt p ∷ zs) m c d w h = (w.0.0, w.0.1, ends_before b zs (place_of b p.end) c d w.1 h.1)
ends_before b (CommentAt p ∷ zs) m c d w h = (w.0.0, w.0.1, ends_before b zs (place_of b p.end) c d w.1 h.1)
ends_before b (EndAt p ∷ zs) m c d w h = (lt_of_place b p.at (length b) w.0 (below_ends zs (place_of b) (place_of b p.at) (length b) c d h.1), ends_before b zs (place_of b p.at) c d w.1 h.1)

-- ---- of octets that follow whole entries

three : (a b c y : List Mark) → (a ++ (b ++ (c ++ []))) ++ y ≡ a ++ (b ++ (c ++ y))
three a b c y = ap (λ l. (a ++ (b ++ l)) ++ y) (append-nil c) ∙ append_assoc a (b ++ c) y ∙ ap (λ l. a ++ l) (append_assoc b c y)

module _ (b y : List ℕ) where
  abbrev n : ℕ
  n = length b

  abbrev on : List Piece → List Piece
  on found = map (onward b) found

  module _ (front : List Piece) (c : Bool) (items : AreItemsOf b (map Ok front ++ Ok (end_at n c) ∷ Ok (end_at n false) ∷ [])) where
    abbrev text : List ℕ
    text = encode_utf8_all b

    abbrev own : List Piece
    own = front ++ two_ends n c false

    same_items : map {B = Result Piece Fault} Ok front ++ Ok (end_at n c) ∷ Ok (end_at n false) ∷ [] ≡ map Ok own
    same_items = sym (map-append Ok front (two_ends n c false))

    whole : IsOctetPieces b own
    whole = subst (IsOctetPieces b) (pieces_after front (map Ok (two_ends n c false))) (whole_of b (map Ok front ++ map Ok (two_ends n c false)) items.0 (fault_after front (map Ok (two_ends n c false))))

    rising : Rises 0 (map (moved_piece (place_of b)) own)
    rising = subst (Rises 0) whole.placed (rises whole.lexemes 0 0 0 (begins_blank whole.lexemes) (omega arith))

    some : 0 < n
    some = go (cases_lt 0 n)
      where
        first : 0 < place_of b n
        first = below_ends front (place_of b) 0 n c false rising

        go : (0 < n) ⊎ (n ≤ 0) → 0 < n
        go (inl less) = less
        go (inr none) = let zero_is : n ≡ 0 = omega (arith, none) in absurd (omega (arith, first, ap (place_of b) zero_is))

    in_time : EndBefore n front
    in_time = ends_before b front 0 c false (each_first n front _ items.1) rising

    -- the marks of the whole entries
    abbrev marks_of_front : List Mark
    marks_of_front = marks b false 0 front

    abbrev last_gap : List Mark
    last_gap = gap_marks b (from_after 0 front) n

    none_after : blank_at b n ≡ false
    none_after = ap first_blank (drop_all n b (omega arith))

    no_gap : gap_marks b n n ≡ []
    no_gap = ap (flat_map gap_mark) (no_more b n n (omega arith))

    marks_are : (ms : List Mark) → HasMarks b ms → ms ≡ lead (blank_at b 0) ++ (marks_of_front ++ (last_gap ++ []))
    marks_are ms h =
        marks_once b ms (all_marks b own) h (own, whole, subst (EachWithin n) same_items items.1, refl)
        ∙ ap (λ l. lead (blank_at b 0) ++ l) (marks_append b false 0 front (two_ends n c false))
        ∙ ap (λ x. lead (blank_at b 0) ++ (marks_of_front ++ (last_gap ++ (lead x ++ (gap_marks b n n ++ (lead x ++ [])))))) none_after
        ∙ ap (λ l. lead (blank_at b 0) ++ (marks_of_front ++ (last_gap ++ (l ++ [])))) no_gap

    joined : (found : List Piece) → all_marks (b ++ y) ((front ++ end_at n c ∷ []) ++ on found) ≡ lead (blank_at b 0) ++ (marks_of_front ++ (last_gap ++ all_marks y found))
    joined found =
        let f : ℕ = from_after 0 front in
        let here : n + 0 ≡ n = omega arith in
        let after : marks (b ++ y) false n (on found) ≡ marks y false 0 found = ap (λ i. marks (b ++ y) false i (on found)) (sym here) ∙ marks_back b y false 0 found in
        let blank : blank_at (b ++ y) n ≡ blank_at y 0 = ap (blank_at (b ++ y)) (sym here) ∙ blank_back b y 0 in
        ap (all_marks (b ++ y)) (append_assoc front (end_at n c ∷ []) (on found))
        ∙ ap (λ x. lead x ++ marks (b ++ y) false 0 (front ++ end_at n c ∷ on found)) (blank_first b y 0 some)
        ∙ ap (λ l. lead (blank_at b 0) ++ l) (marks_append (b ++ y) false 0 front (end_at n c ∷ on found))
        ∙ ap (λ l. lead (blank_at b 0) ++ (l ++ (gap_marks (b ++ y) f n ++ (lead (blank_at (b ++ y) n) ++ marks (b ++ y) false n (on found))))) (marks_first b y false 0 front in_time)
        ∙ ap (λ l. lead (blank_at b 0) ++ (marks_of_front ++ (l ++ (lead (blank_at (b ++ y) n) ++ marks (b ++ y) false n (on found))))) (gap_first b y f n (omega arith))
        ∙ ap (λ x. lead (blank_at b 0) ++ (marks_of_front ++ (last_gap ++ (lead x ++ marks (b ++ y) false n (on found))))) blank
        ∙ ap (λ l. lead (blank_at b 0) ++ (marks_of_front ++ (last_gap ++ (lead (blank_at y 0) ++ l)))) after

    pub follow_marks : (ms : List Mark) → HasMarks b ms → (found : List Piece) → all_marks (b ++ y) ((front ++ end_at n c ∷ []) ++ on found) ≡ ms ++ all_marks y found
    follow_marks ms h found = joined found ∙ sym (three (lead (blank_at b 0)) marks_of_front last_gap (all_marks y found)) ∙ ap (λ l. l ++ all_marks y found) (sym (marks_are ms h))
