-- From the text in which each octet is a character to the octets.
use Rattle.std.proofs.Common.{◌≡◌, ℕ, zero, suc, ◌+◌, ◌-◌, ◌≤◌, Bool, true, false, ◌&&◌, ◌==◌, List, [], ◌∷◌, ◌++◌, length, take, drop, refl, sym, ap, ◌∙◌, subst, arith, inl, inr, eq-eqb, append-nil, length-append}
use Rattle.std.specs.Prelude.{if◌then◌else◌, map, replicate, Option, Some, None, option_map, Result, Ok, encode_utf8, encode_utf8_all}
use Rattle.std.specs.List.{flat_map, list_all}
use lib.Utf8.{encode}
use Rattle.std.proofs.lemmas.Bool.{and_parts, cases_lt, leb-true, ne_eqb}
use Rattle.std.proofs.lemmas.Grind.{flat_map-append}
use Rattle.std.proofs.lemmas.List.{map-append, take-append-drop}
use Rattle.std.proofs.lemmas.Str.{encode_ascii, encodes-append, encodes_same}
use Rattle.std.proofs.Math.Seq.{take-add, take-append_seam, drop-append_seam}
use Rattle.dns_lexer.specs.declared.pieces.Piece.{Piece}
use Rattle.dns_lexer.specs.declared.pieces.Piece.TheVariants.{Word as WordAt, Quote as QuoteAt, Comment as CommentAt, End as EndAt}
use Rattle.dns_lexer.specs.declared.pieces.Fault.{Fault}
use Rattle.dns_lexer.specs.Pieces.{EachWithin, between, IsPieces, moved, moved_fault, moved_piece, place_of}
use Rattle.dns_lexer.specs.Run.{first_blank, run}
use Rattle.dns_lexer.specs.CursorStates.{blank_at}
use Rattle.dns_lexer.proofs.PieceLexemes.{first_blank_char, is_high, high_bytes}
use Rattle.dns_lexer.proofs.PieceMoved.{mono, octets_run}
use Rattle.dns_lexer.proofs.PieceParts.{each_within}
use Rattle.dns_lexer.proofs.PieceSplit.{pieces_one_way, same_found}
use Rattle.dns_lexer.proofs.PieceWhole.{pieces_run}
use Rattle.zone_format.specs.declared.line_state.Above.{Above}
use Rattle.zone_format.specs.declared.line_state.Above.TheVariants.{Nothing, Line, Gap}
use Rattle.zone_format.specs.Marks.{Mark, Feed, Lead, HasMarks, all_marks, gap_mark, gap_marks, lead, marks, shortened}
use Rattle.zone_format.specs.Marks.{Token as TokenMark, Note as NoteMark, Open as OpenMark, Close as CloseMark}
use Rattle.zone_format.proofs.Givens.{first_fault, pieces_in, all_ok, moved_first, moved_oks, first_of_oks}
use Rattle.zone_format.proofs.Reading.{rewritten, text_marks}
use Rattle.zone_format.proofs.Respelling.{count, deep, end_if, first_of, gap_unless, lead_in, next, respelt, space, sq}
use Rattle.zone_format.proofs.Short.{short_encoded}

pub place_sum : (octets : List ℕ) (s n : ℕ) → place_of octets (s + n) ≡ place_of octets s + length (encode_utf8_all (take n (drop s octets)))
place_sum octets s n =
    ap (λ l. length (encode_utf8_all l)) (take-add s n octets) ∙ ap length (encodes-append (take s octets) (take n (drop s octets)))
    ∙ length-append (encode_utf8_all (take s octets)) (encode_utf8_all (take n (drop s octets)))

dropped : (octets : List ℕ) (s : ℕ) → drop (place_of octets s) (encode_utf8_all octets) ≡ encode_utf8_all (drop s octets)
dropped octets s =
    ap (λ l. drop (place_of octets s) (encode_utf8_all l)) (sym (take-append-drop s octets)) ∙ ap (drop (place_of octets s)) (encodes-append (take s octets) (drop s octets))
    ∙ drop-append_seam (encode_utf8_all (take s octets)) (encode_utf8_all (drop s octets))

taken_front : (xs : List ℕ) (n : ℕ) → take (length (encode_utf8_all (take n xs))) (encode_utf8_all xs) ≡ encode_utf8_all (take n xs)
taken_front xs n =
    ap (λ l. take (length (encode_utf8_all (take n xs))) (encode_utf8_all l)) (sym (take-append-drop n xs))
    ∙ ap (take (length (encode_utf8_all (take n xs)))) (encodes-append (take n xs) (drop n xs)) ∙ take-append_seam (encode_utf8_all (take n xs)) (encode_utf8_all (drop n xs))

pub moved_between : (octets : List ℕ) (s e : ℕ) → between (encode_utf8_all octets) (place_of octets s) (place_of octets e) ≡ encode_utf8_all (between octets s e)
moved_between octets s e = elim (cases_lt e s) [
  | inl less ↦
      let m : s ≡ e + (s - e) = omega (arith, less) in
      let p = ap (place_of octets) m ∙ place_sum octets e (s - e) in
      let none : place_of octets e - place_of octets s ≡ 0 = omega (arith, p) in
      let nothing : e - s ≡ 0 = omega (arith, less) in
      ap (λ n. take n (drop (place_of octets s) (encode_utf8_all octets))) none ∙ ap (λ n. encode_utf8_all (take n (drop s octets))) (sym nothing)
  | inr most ↦
      let m : e ≡ s + (e - s) = omega (arith, most) in
      let p = ap (place_of octets) m ∙ place_sum octets s (e - s) in
      let n : place_of octets e - place_of octets s ≡ length (encode_utf8_all (take (e - s) (drop s octets))) = omega (arith, p) in
      ap (λ k. take k (drop (place_of octets s) (encode_utf8_all octets))) n ∙ ap (take (length (encode_utf8_all (take (e - s) (drop s octets))))) (dropped octets s)
      ∙ taken_front (drop s octets) (e - s)
]

same_place : (octets : List ℕ) (i j : ℕ) → i ≤ length octets → j ≤ length octets → (place_of octets i == place_of octets j) ≡ (i == j)
same_place octets i j a b = elim (cases_lt i j) [
  | inl less ↦ ne_eqb (place_of octets i) (place_of octets j) (λ e. omega (arith, e, mono octets i j less b)) ∙ sym (ne_eqb i j (λ e. omega (arith, e, less)))
  | inr most ↦ elim (cases_lt j i) [
    | inl more ↦ ne_eqb (place_of octets i) (place_of octets j) (λ e. omega (arith, e, mono octets j i more a)) ∙ sym (ne_eqb i j (λ e. omega (arith, e, more)))
    | inr least ↦ let e : i ≡ j = omega (arith, most, least) in eq-eqb (place_of octets i) (place_of octets j) (ap (place_of octets) e) ∙ sym (eq-eqb i j e)
  ]
]

abbrev pub encoded_mark : Mark → Mark
encoded_mark (TokenMark g t) = TokenMark g (encode_utf8_all t)
encoded_mark (NoteMark t) = NoteMark (encode_utf8_all t)
encoded_mark OpenMark = OpenMark
encoded_mark CloseMark = CloseMark
encoded_mark Feed = Feed
encoded_mark Lead = Lead

-- octets beyond ASCII make no mark
none_high : (c : ℕ) → 128 ≤ c → gap_mark c ≡ []
none_high c big =
    ap (λ x. if x then OpenMark ∷ [] else if c == 41 then CloseMark ∷ [] else if c == 10 then Feed ∷ [] else []) (ne_eqb c 40 (λ e. omega (arith, e, big)))
    ∙ ap (λ x. if x then CloseMark ∷ [] else if c == 10 then Feed ∷ [] else []) (ne_eqb c 41 (λ e. omega (arith, e, big)))
    ∙ ap (λ x. if x then Feed ∷ [] else []) (ne_eqb c 10 (λ e. omega (arith, e, big)))

none_highs : (hs : List ℕ) → list_all is_high hs ≡ true → flat_map gap_mark hs ≡ []
none_highs [] h = refl
none_highs (x ∷ hs) h = let p = and_parts (is_high x) (list_all is_high hs) h in ap (λ l. l ++ flat_map gap_mark hs) (none_high x (leb-true 128 x p.0)) ∙ none_highs hs p.1

char_marks : (c : ℕ) → flat_map gap_mark (encode_utf8 c) ≡ gap_mark c
char_marks c = elim (cases_lt c 128) [
  | inl low ↦ ap (flat_map gap_mark) (encode_ascii c low) ∙ append-nil (gap_mark c)
  | inr big ↦ none_highs (encode_utf8 c) (high_bytes c big) ∙ sym (none_high c big)
]

gap_encoded : (xs : List ℕ) → flat_map gap_mark (encode_utf8_all xs) ≡ flat_map gap_mark xs
gap_encoded [] = refl
gap_encoded (c ∷ cs) =
    flat_map-append gap_mark (encode_utf8 c) (encode_utf8_all cs) ∙ ap (λ l. l ++ flat_map gap_mark (encode_utf8_all cs)) (char_marks c) ∙ ap (λ l. gap_mark c ++ l) (gap_encoded cs)

moved_gap : (octets : List ℕ) (s e : ℕ) → gap_marks (encode_utf8_all octets) (place_of octets s) (place_of octets e) ≡ gap_marks octets s e
moved_gap octets s e = ap (flat_map gap_mark) (moved_between octets s e) ∙ gap_encoded (between octets s e)

mark_same : (a b d : Bool) → map encoded_mark (if a then OpenMark ∷ [] else if b then CloseMark ∷ [] else if d then Feed ∷ [] else []) ≡ (if a then OpenMark ∷ [] else if b then CloseMark ∷ [] else if d then Feed ∷ [] else [])
mark_same true b d = refl
mark_same false true d = refl
mark_same false false true = refl
mark_same false false false = refl

gap_same : (xs : List ℕ) → map encoded_mark (flat_map gap_mark xs) ≡ flat_map gap_mark xs
gap_same [] = refl
gap_same (c ∷ cs) =
    map-append encoded_mark (gap_mark c) (flat_map gap_mark cs) ∙ ap (λ l. l ++ map encoded_mark (flat_map gap_mark cs)) (mark_same (c == 40) (c == 41) (c == 10))
    ∙ ap (λ l. gap_mark c ++ l) (gap_same cs)

first_same : (os : List ℕ) → first_blank (encode_utf8_all os) ≡ first_blank os
first_same [] = refl
first_same (c ∷ os) = first_blank_char c (encode_utf8_all os)

moved_lead : (octets : List ℕ) (at : ℕ) → blank_at (encode_utf8_all octets) (place_of octets at) ≡ blank_at octets at
moved_lead octets at = ap first_blank (dropped octets at) ∙ first_same (drop at octets)

lead_same : (b : Bool) (ms : List Mark) → lead b ++ map encoded_mark ms ≡ map encoded_mark (lead b ++ ms)
lead_same true ms = refl
lead_same false ms = refl

-- marks after a gap
turn : (octets : List ℕ) (from s : ℕ) (xs ys : List Mark) → xs ≡ map encoded_mark ys → gap_marks (encode_utf8_all octets) (place_of octets from) (place_of octets s) ++ xs ≡ map encoded_mark (gap_marks octets from s ++ ys)
turn octets from s xs ys k =
    ap (λ g. g ++ xs) (moved_gap octets from s) ∙ ap (λ l. gap_marks octets from s ++ l) k
    ∙ sym (map-append encoded_mark (gap_marks octets from s) ys ∙ ap (λ g. g ++ map encoded_mark ys) (gap_same (between octets from s)))

token_turn : (octets : List ℕ) (tied : Bool) (from s e : ℕ) (xs ys : List Mark) → s ≤ length octets → from ≤ length octets → xs ≡ map encoded_mark ys
    → TokenMark (tied && (place_of octets s == place_of octets from)) (between (encode_utf8_all octets) (place_of octets s) (place_of octets e)) ∷ xs ≡ map encoded_mark (TokenMark (tied && (s == from)) (between octets s e) ∷ ys)
token_turn octets tied from s e xs ys a b k =
    ap (λ x. TokenMark (tied && x) (between (encode_utf8_all octets) (place_of octets s) (place_of octets e)) ∷ xs) (same_place octets s from a b)
    ∙ ap (λ t. TokenMark (tied && (s == from)) t ∷ xs) (moved_between octets s e) ∙ ap (λ l. TokenMark (tied && (s == from)) (encode_utf8_all (between octets s e)) ∷ l) k

within_start : (octets : List ℕ) (s e : ℕ) → s ≤ e → e ≤ length octets → s ≤ length octets
within_start octets s e a b = omega (arith, a, b)

moved_marks : (octets : List ℕ) (tied : Bool) (from : ℕ) (found : List Piece) → from ≤ length octets → EachWithin (length octets) (map Ok found)
    → marks (encode_utf8_all octets) tied (place_of octets from) (map (moved_piece (place_of octets)) found) ≡ map encoded_mark (marks octets tied from found)
moved_marks octets tied from [] f w = refl
moved_marks octets tied from (WordAt p ∷ ps) f w =
    turn octets from p.start _ _ (token_turn octets tied from p.start p.end _ (marks octets true p.end ps) (within_start octets p.start p.end w.0.0 w.0.1) f (moved_marks octets true p.end ps w.0.1 w.1))
moved_marks octets tied from (QuoteAt p ∷ ps) f w =
    turn octets from p.start _ _ (token_turn octets tied from p.start p.end _ (marks octets true p.end ps) (within_start octets p.start p.end w.0.0 w.0.1) f (moved_marks octets true p.end ps w.0.1 w.1))
moved_marks octets tied from (CommentAt p ∷ ps) f w =
    turn octets from p.start _ (NoteMark (shortened (between octets p.start p.end)) ∷ marks octets false p.end ps) (
    ap (λ t. NoteMark t ∷ marks (encode_utf8_all octets) false (place_of octets p.end) (map (moved_piece (place_of octets)) ps)) (ap shortened (moved_between octets p.start p.end) ∙ short_encoded (between octets p.start p.end))
    ∙ ap (λ l. NoteMark (encode_utf8_all (shortened (between octets p.start p.end))) ∷ l) (moved_marks octets false p.end ps w.0.1 w.1)
    )
moved_marks octets tied from (EndAt p ∷ ps) f w =
    turn octets from p.at _ (lead (blank_at octets p.at) ++ marks octets false p.at ps) (
    ap (λ b. lead b ++ marks (encode_utf8_all octets) false (place_of octets p.at) (map (moved_piece (place_of octets)) ps)) (moved_lead octets p.at)
    ∙ ap (λ l. lead (blank_at octets p.at) ++ l) (moved_marks octets false p.at ps w.0 w.1) ∙ lead_same (blank_at octets p.at) (marks octets false p.at ps)
    )

pub moved_all : (octets : List ℕ) (found : List Piece) → EachWithin (length octets) (map Ok found) → all_marks (encode_utf8_all octets) (map (moved_piece (place_of octets)) found) ≡ map encoded_mark (all_marks octets found)
moved_all octets found w =
    ap (λ b. lead b ++ marks (encode_utf8_all octets) false 0 (map (moved_piece (place_of octets)) found)) (moved_lead octets 0)
    ∙ ap (λ l. lead (blank_at octets 0) ++ l) (moved_marks octets false 0 found (omega arith) w) ∙ lead_same (blank_at octets 0) (marks octets false 0 found)

-- blanks and line ends are ASCII
blanks_same : (n : ℕ) → encode_utf8_all (replicate n 32) ≡ replicate n 32
unfolding encode
blanks_same zero = refl
blanks_same (suc n) = ap (λ l. 32 ∷ l) (blanks_same n)

gaps_same : (w : Bool) (a : Above) → encode_utf8_all (gap_unless 10 w a) ≡ gap_unless 10 w a
unfolding encode
gaps_same true a = refl
gaps_same false Nothing = refl
gaps_same false Line = refl
gaps_same false Gap = refl

ends_same : (w : Bool) → encode_utf8_all (end_if 10 w) ≡ end_if 10 w
unfolding encode
ends_same true = refl
ends_same false = refl

space_same : (a : Above) (w : Bool) (n : ℕ) → encode_utf8_all (space a w n) ≡ space a w n
space_same a w n = encodes-append (gap_unless 10 w a) (replicate n 32) ∙ ap (λ l. l ++ encode_utf8_all (replicate n 32)) (gaps_same w a) ∙ ap (λ l. gap_unless 10 w a ++ l) (blanks_same n)

put_same : (a : Above) (w : Bool) (n : ℕ) (t r u v : List ℕ) → encode_utf8_all t ≡ u → encode_utf8_all r ≡ v → encode_utf8_all (space a w n ++ (t ++ r)) ≡ space a w n ++ (u ++ v)
put_same a w n t r u v e k =
    encodes-append (space a w n) (t ++ r) ∙ ap (λ l. l ++ encode_utf8_all (t ++ r)) (space_same a w n) ∙ ap (λ l. space a w n ++ l) (encodes-append t r)
    ∙ ap (λ l. space a w n ++ (l ++ encode_utf8_all r)) e ∙ ap (λ l. space a w n ++ (u ++ l)) k

line_same : (w : Bool) (r v : List ℕ) → encode_utf8_all r ≡ v → encode_utf8_all (end_if 10 w ++ r) ≡ end_if 10 w ++ v
line_same w r v h = encodes-append (end_if 10 w) r ∙ ap (λ l. l ++ encode_utf8_all r) (ends_same w) ∙ ap (λ l. end_if 10 w ++ l) h

open_same : encode_utf8_all (40 ∷ []) ≡ 40 ∷ []
unfolding encode
open_same = refl

close_same : encode_utf8_all (41 ∷ []) ≡ 41 ∷ []
unfolding encode
close_same = refl

respelt_same : (ms : List Mark) (plan : List ℕ) (a : Above) (w : Bool) (d : ℕ) (l : Bool) → encode_utf8_all (respelt plan a w d l ms) ≡ respelt plan a w d l (map encoded_mark ms)
respelt_same [] plan a w d l = ends_same w
respelt_same (TokenMark g t ∷ ms) plan a w d l = put_same a w (count g w (deep d) l (first_of plan)) t _ _ _ refl (respelt_same ms (drop 1 plan) a true d false)
respelt_same (NoteMark t ∷ ms) plan a w d l = put_same a w (count false w (deep d) l (first_of plan)) t _ _ _ refl (respelt_same ms (drop 1 plan) a true d false)
respelt_same (OpenMark ∷ ms) plan a w d l = put_same a w (count false w (deep d) l (first_of plan)) (40 ∷ []) _ _ _ open_same (respelt_same ms (drop 1 plan) a true (d + 1) false)
respelt_same (CloseMark ∷ ms) plan a w d l = put_same a w (count false w (deep d) l (first_of plan)) (41 ∷ []) _ _ _ close_same (respelt_same ms (drop 1 plan) a true (d - 1) false)
respelt_same (Feed ∷ ms) plan a w d l = line_same w _ _ (respelt_same ms plan (next w a) false d false)
respelt_same (Lead ∷ ms) plan a w d l = respelt_same ms plan a w d true

lead_ins : (a : Above) (w l : Bool) (m : Mark) (xs ys : List Mark) → map encoded_mark xs ≡ ys → map encoded_mark (lead_in a w l ++ (m ∷ xs)) ≡ lead_in a w l ++ (encoded_mark m ∷ ys)
lead_ins a true l m xs ys e = ap (λ k. encoded_mark m ∷ k) e
lead_ins Nothing false true m xs ys e = ap (λ k. Lead ∷ encoded_mark m ∷ k) e
lead_ins Nothing false false m xs ys e = ap (λ k. encoded_mark m ∷ k) e
lead_ins Line false true m xs ys e = ap (λ k. Lead ∷ encoded_mark m ∷ k) e
lead_ins Line false false m xs ys e = ap (λ k. encoded_mark m ∷ k) e
lead_ins Gap false true m xs ys e = ap (λ k. Feed ∷ Lead ∷ encoded_mark m ∷ k) e
lead_ins Gap false false m xs ys e = ap (λ k. Feed ∷ encoded_mark m ∷ k) e

feed_ends : (w : Bool) (xs ys : List Mark) → map encoded_mark xs ≡ ys → map encoded_mark (end_if Feed w ++ xs) ≡ end_if Feed w ++ ys
feed_ends true xs ys e = ap (λ k. Feed ∷ k) e
feed_ends false xs ys e = e

last_end : (w : Bool) → map encoded_mark (end_if Feed w) ≡ end_if Feed w
last_end true = refl
last_end false = refl

sq_encoded : (ms : List Mark) (a : Above) (w l : Bool) → map encoded_mark (sq a w l ms) ≡ sq a w l (map encoded_mark ms)
sq_encoded [] a w l = last_end w
sq_encoded (TokenMark g t ∷ ms) a w l = lead_ins a w l (TokenMark g t) _ _ (sq_encoded ms a true false)
sq_encoded (NoteMark t ∷ ms) a w l = lead_ins a w l (NoteMark t) _ _ (sq_encoded ms a true false)
sq_encoded (OpenMark ∷ ms) a w l = lead_ins a w l OpenMark _ _ (sq_encoded ms a true false)
sq_encoded (CloseMark ∷ ms) a w l = lead_ins a w l CloseMark _ _ (sq_encoded ms a true false)
sq_encoded (Feed ∷ ms) a w l = feed_ends w _ _ (sq_encoded ms (next w a) false false)
sq_encoded (Lead ∷ ms) a w l = sq_encoded ms a w true

abbrev text_of : Mark → List ℕ
text_of (TokenMark g t) = t
text_of (NoteMark t) = t
text_of _ = []

abbrev glue_of : Mark → Bool
glue_of (TokenMark g t) = g
glue_of _ = false

abbrev kind_of : Mark → ℕ
kind_of (TokenMark g t) = 0
kind_of (NoteMark t) = 1
kind_of OpenMark = 2
kind_of CloseMark = 3
kind_of Feed = 4
kind_of Lead = 5

same_mark : (x y : Mark) → encoded_mark x ≡ encoded_mark y → x ≡ y
same_mark (TokenMark g t) (TokenMark h u) e = ap (λ b. TokenMark b t) (ap glue_of e) ∙ ap (TokenMark h) (encodes_same t u (ap text_of e))
same_mark (TokenMark g t) (NoteMark u) e = cc
same_mark (TokenMark g t) OpenMark e = cc
same_mark (TokenMark g t) CloseMark e = cc
same_mark (TokenMark g t) Feed e = cc
same_mark (TokenMark g t) Lead e = cc
same_mark (NoteMark t) (TokenMark h u) e = cc
same_mark (NoteMark t) (NoteMark u) e = ap NoteMark (encodes_same t u (ap text_of e))
same_mark (NoteMark t) OpenMark e = cc
same_mark (NoteMark t) CloseMark e = cc
same_mark (NoteMark t) Feed e = cc
same_mark (NoteMark t) Lead e = cc
same_mark OpenMark (TokenMark h u) e = cc
same_mark OpenMark (NoteMark u) e = cc
same_mark OpenMark OpenMark e = e
same_mark OpenMark CloseMark e = cc
same_mark OpenMark Feed e = cc
same_mark OpenMark Lead e = cc
same_mark CloseMark (TokenMark h u) e = cc
same_mark CloseMark (NoteMark u) e = cc
same_mark CloseMark OpenMark e = cc
same_mark CloseMark CloseMark e = e
same_mark CloseMark Feed e = cc
same_mark CloseMark Lead e = cc
same_mark Feed (TokenMark h u) e = cc
same_mark Feed (NoteMark u) e = cc
same_mark Feed OpenMark e = cc
same_mark Feed CloseMark e = cc
same_mark Feed Feed e = e
same_mark Feed Lead e = cc
same_mark Lead (TokenMark h u) e = cc
same_mark Lead (NoteMark u) e = cc
same_mark Lead OpenMark e = cc
same_mark Lead CloseMark e = cc
same_mark Lead Feed e = cc
same_mark Lead Lead e = e

abbrev pub head_of : {A : Type 0} → A → List A → A
head_of x [] = x
head_of x (y ∷ ys) = y

abbrev pub rest_of : {A : Type 0} → List A → List A
rest_of [] = []
rest_of (y ∷ ys) = ys

pub same_marks : (xs ys : List Mark) → map encoded_mark xs ≡ map encoded_mark ys → xs ≡ ys
same_marks [] [] e = refl
same_marks [] (y ∷ ys) e = cc
same_marks (x ∷ xs) [] e = cc
same_marks (x ∷ xs) (y ∷ ys) e = ap (λ z. z ∷ xs) (same_mark x y (ap (head_of (encoded_mark x)) e)) ∙ ap (λ l. y ∷ l) (same_marks xs ys (ap rest_of e))

-- what is read of octets whose text has pieces
read_octets : (octets : List ℕ) (found : List Piece) → IsPieces (encode_utf8_all octets) found → (given : List (Result Piece Fault)) × (map (moved (place_of octets)) given ≡ map Ok found) × EachWithin (length octets) given
read_octets octets found p = (run _ 0 0 0 (first_blank octets) octets, sym (octets_run octets) ∙ pieces_run (encode_utf8_all octets) found p, each_within octets (first_blank octets))

-- octets whose text has pieces have pieces
pub octets_have : (octets : List ℕ) (found : List Piece) → IsPieces (encode_utf8_all octets) found → (again : List Piece) × (map (moved_piece (place_of octets)) again ≡ found) × EachWithin (length octets) (map Ok again)
octets_have octets found p =
    let g = place_of octets in
    let read = read_octets octets found p in
    let given = read.0 in
    let same : map (moved g) given ≡ map Ok found = read.1 in
    let none : first_fault given ≡ None = none_moved g (first_fault given) (sym (moved_first g given) ∙ ap first_fault same ∙ first_of_oks found) in (
      pieces_in given,
      same_found (map (moved_piece g) (pieces_in given)) found (sym (ap (map (moved g)) (all_ok given none) ∙ moved_oks g (pieces_in given)) ∙ same),
      subst (EachWithin (length octets)) (all_ok given none) read.2,
    )
  where
    none_moved : (g : ℕ → ℕ) (o : Option Fault) → option_map (moved_fault g) o ≡ None → o ≡ None
    none_moved g None e = refl
    none_moved g (Some f) e = cc

pub marks_written : (octets plan : List ℕ) (ms : List Mark) → HasMarks octets ms → HasMarks (rewritten plan ms) (sq Nothing false false ms)
marks_written octets plan ms h =
    let g = place_of octets in
    let text = encode_utf8_all octets in
    let found = map (moved_piece g) h.0 in
    let out = rewritten plan ms in
    let t = text_marks plan text found h.1 in
    let is : all_marks text found ≡ map encoded_mark ms = moved_all octets h.0 h.2 ∙ ap (map encoded_mark) h.3 in
    let same : rewritten plan (all_marks text found) ≡ encode_utf8_all out = ap (rewritten plan) is ∙ sym (respelt_same ms plan Nothing false 0 false) in
    let p : IsPieces (encode_utf8_all out) t.0 = subst (λ l. IsPieces l t.0) same t.1 in
    let a = octets_have out t.0 p in
    let kept : map encoded_mark (all_marks out a.0) ≡ map encoded_mark (sq Nothing false false ms) =
    sym (moved_all out a.0 a.2) ∙ ap (all_marks (encode_utf8_all out)) a.1 ∙ ap (λ l. all_marks l t.0) (sym same) ∙ t.2 ∙ ap (sq Nothing false false) is ∙ sym (sq_encoded ms Nothing false false) in (
      a.0,
      subst (IsPieces (encode_utf8_all out)) (sym a.1) p,
      a.2,
      same_marks (all_marks out a.0) (sq Nothing false false ms) kept,
    )

-- octets have one list of marks at most
pub marks_once : (octets : List ℕ) (ms ns : List Mark) → HasMarks octets ms → HasMarks octets ns → ms ≡ ns
marks_once octets ms ns a b =
    let g = place_of octets in
    let one = pieces_one_way (encode_utf8_all octets) (map (moved_piece g) a.0) (map (moved_piece g) b.0) a.1 b.1 in
    same_marks ms ns (
    ap (map encoded_mark) (sym a.3) ∙ sym (moved_all octets a.0 a.2) ∙ ap (all_marks (encode_utf8_all octets)) one ∙ moved_all octets b.0 b.2 ∙ ap (map encoded_mark) b.3
    )
