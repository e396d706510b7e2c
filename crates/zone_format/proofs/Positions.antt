-- One more octet, and the column.
use Rattle.std.proofs.Common.{◌≡◌, ℕ, ◌+◌, ◌≤◌, ◌<◌, true, false, ◌==◌, not, List, [], ◌∷◌, ◌++◌, length, take, drop, ◌-◌, get_or, sym, ap, ◌∙◌, arith, append_assoc, cond, eq-eqb, length-take}
use Rattle.dns_lexer.specs.declared.position.Position.{Position}
use Rattle.std.specs.Prelude.{reverse}
use Rattle.std.specs.List.{count_by, take_while}
use Rattle.std.proofs.lemmas.List.{take_more, reverse-append, take-append-drop, take_all, length-take-le}
use Rattle.std.proofs.Math.Seq.{take-append-add}
use Rattle.std.proofs.lemmas.List.Sums.{take_while-cons, sum_by-append, sum_by-cons, count_by-le-length}
use Rattle.zone_format.specs.Place.{begins_character, column_of, feeds, last_line, IsAt}

last_more : (l : List ℕ) (c : ℕ) → last_line (l ++ c ∷ []) ≡ cond (not (c == 10)) (c ∷ last_line l) []
last_more l c = ap (take_while (λ c. not (c == 10))) (reverse-append l (c ∷ [])) ∙ take_while-cons (λ c. not (c == 10)) c (reverse l)

last_line_goes_on : (l : List ℕ) (c : ℕ) → (c == 10) ≡ false → last_line (l ++ c ∷ []) ≡ c ∷ last_line l
last_line_goes_on l c h = last_more l c ∙ ap (λ b. cond (not b) (c ∷ last_line l) []) h

pub column_feed : (l : List ℕ) (c : ℕ) → (c == 10) ≡ true → column_of (l ++ c ∷ []) ≡ 1
column_feed l c h = ap (λ s. count_by begins_character s + 1) (last_more l c ∙ ap (λ b. cond (not b) (c ∷ last_line l) []) h)

pub column_more : (l : List ℕ) (c : ℕ) (n : ℕ) → (c == 10) ≡ false → begins_character c ≡ true → n ≡ column_of l → n + 1 ≡ column_of (l ++ c ∷ [])
column_more l c n h k e =
    let s = ap (count_by begins_character) (last_line_goes_on l c h) ∙ sum_by-cons (λ x. cond (begins_character x) 1 0) c (last_line l)
    ∙ ap (λ b. cond b 1 0 + count_by begins_character (last_line l)) k in
    omega (arith, e, s)

pub column_same : (l : List ℕ) (c : ℕ) (n : ℕ) → (c == 10) ≡ false → begins_character c ≡ false → n ≡ column_of l → n ≡ column_of (l ++ c ∷ [])
column_same l c n h k e =
    let s = ap (count_by begins_character) (last_line_goes_on l c h) ∙ sum_by-cons (λ x. cond (begins_character x) 1 0) c (last_line l)
    ∙ ap (λ b. cond b 1 0 + count_by begins_character (last_line l)) k in
    omega (arith, e, s)

-- the octet at i after those before it
pub one_on : (before xs : List ℕ) (i : ℕ) → i < length xs → before ++ take (i + 1) xs ≡ before ++ take i xs ++ get_or xs i 0 ∷ []
one_on before xs i h = ap (λ l. before ++ l) (take_more xs i 0 h) ∙ sym (append_assoc before (take i xs) (get_or xs i 0 ∷ []))

-- the octets before an offset are those before an earlier one and those between
pub taken : (xs : List ℕ) (i j : ℕ) → i ≤ j → j ≤ length xs → take j xs ≡ take i xs ++ take (j - i) (drop i xs)
taken xs i j h k =
    let short : length (take i xs) ≡ i = length-take-le i xs (omega arith) in
    let n : j ≡ length (take i xs) + (j - i) = omega (arith, short, h) in
    ap (take j) (sym (take-append-drop i xs)) ∙ ap (λ m. take m (take i xs ++ drop i xs)) n ∙ take-append-add (take i xs) (drop i xs) (j - i)

-- a load more of them
pub feeds_on : (xs : List ℕ) (i : ℕ) → i + 16 ≤ length xs → feeds (take (i + 16) xs) ≡ feeds (take i xs) + feeds (take 16 (drop i xs))
feeds_on xs i room =
    let same : i + 16 - i ≡ 16 = omega arith in
    ap feeds (taken xs i (i + 16) (omega arith) room ∙ ap (λ n. take i xs ++ take n (drop i xs)) same) ∙ sum_by-append (λ x. cond (x == 10) 1 0) (take i xs) (take 16 (drop i xs))

pub load_short : (xs : List ℕ) (i : ℕ) → feeds (take 16 (drop i xs)) ≤ 16
load_short xs i = omega (arith, count_by-le-length (λ c. c == 10) (take 16 (drop i xs)), length-take 16 (drop i xs))

-- the octets before an offset, and those from it on
parted : (xs : List ℕ) (s : ℕ) → s ≤ length xs → take s xs ++ take (length xs - s) (drop s xs) ≡ xs
parted xs s within = sym (taken xs s (length xs) within (omega arith)) ∙ take_all (length xs) xs (omega arith)

pub feeds_parted : (xs : List ℕ) (s : ℕ) → s ≤ length xs → feeds (take s xs) + feeds (take (length xs - s) (drop s xs)) ≡ feeds xs
feeds_parted xs s within = sym (sum_by-append (λ x. cond (x == 10) 1 0) (take s xs) (take (length xs - s) (drop s xs))) ∙ ap feeds (parted xs s within)

-- after a line end the column is 1, whatever precedes it
pub line_begins : (before xs : List ℕ) (s : ℕ) → 0 < s → s ≤ length xs → get_or xs (s - 1) 0 ≡ 10 → 1 ≡ column_of (before ++ take s xs)
line_begins before xs s some within fed =
    let back : s ≡ s - 1 + 1 = omega (arith, some) in
    sym (ap (λ n. column_of (before ++ take n xs)) back ∙ ap column_of (one_on before xs (s - 1) (omega (arith, some, within)))
    ∙ column_feed (before ++ take (s - 1) xs) (get_or xs (s - 1) 0) (eq-eqb (get_or xs (s - 1) 0) 10 fed))

pub line_goes_on : (before xs : List ℕ) (s n : ℕ) → s ≤ length xs → n ≡ column_of ((before ++ take s xs) ++ take (length xs - s) (drop s xs)) → n ≡ column_of (before ++ xs)
line_goes_on before xs s n within e = e ∙ ap column_of (append_assoc before (take s xs) (take (length xs - s) (drop s xs)) ∙ ap (λ l. before ++ l) (parted xs s within))

-- the position after more octets
pub position_on : (lines : ℕ) (before xs : List ℕ) (from p : Position) → IsAt lines before from → p.line ≡ from.line + feeds xs → p.column ≡ column_of (before ++ xs) → IsAt lines (before ++ xs) p
position_on lines before xs from p at line column = (omega (arith, line, at.0, sum_by-append (λ x. cond (x == 10) 1 0) before xs), column)
