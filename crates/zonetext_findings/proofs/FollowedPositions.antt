-- The position after octets that follow others.
use Rattle.std.proofs.Common.{◌≡◌, ℕ, ◌+◌, ◌<◌, Bool, true, false, ◌==◌, not, List, [], ◌∷◌, ◌++◌, refl, sym, ap, ◌∙◌, arith, cond}
use Rattle.std.specs.Prelude.{reverse}
use Rattle.std.specs.List.{count_by, take_while}
use Rattle.std.proofs.lemmas.List.{append-nil, reverse-append}
use Rattle.std.proofs.lemmas.List.Sorted.{IsPermutation-reverse, sum_by-IsPermutation}
use Rattle.std.proofs.lemmas.List.Sums.{take_while-cons, sum_by-append, sum_by-cons}
use Rattle.dns_lexer.specs.declared.position.Position.{Position}
use Rattle.zone_format.specs.Place.{begins_character, column_of, feeds, last_line, IsAt}

abbrev in_line : ℕ → Bool
in_line c = not (c == 10)

feeds_cons : (c : ℕ) (l : List ℕ) (b : Bool) → (c == 10) ≡ b → feeds (c ∷ l) ≡ cond b 1 0 + feeds l
feeds_cons c l b e = sum_by-cons (λ x. cond (x == 10) 1 0) c l ∙ ap (λ b. cond b 1 0 + feeds l) e

line_cons : (c : ℕ) (l : List ℕ) (b : Bool) → (c == 10) ≡ b → take_while in_line (c ∷ l) ≡ cond (not b) (c ∷ take_while in_line l) []
line_cons c l b e = take_while-cons in_line c l ∙ ap (λ b. cond (not b) (c ∷ take_while in_line l) []) e

-- what follows octets without a line feed is on their line
goes_on_by : (b : Bool) (c : ℕ) (l z : List ℕ) → (c == 10) ≡ b → (feeds l ≡ 0 → take_while in_line (l ++ z) ≡ l ++ take_while in_line z) → feeds (c ∷ l) ≡ 0
    → take_while in_line (c ∷ (l ++ z)) ≡ c ∷ (l ++ take_while in_line z)
goes_on_by true c l z e rest h = absurd (omega (arith, h, feeds_cons c l true e))
goes_on_by false c l z e rest h = line_cons c (l ++ z) false e ∙ ap (λ t. c ∷ t) (rest (omega (arith, h, feeds_cons c l false e)))

goes_on : (l z : List ℕ) → feeds l ≡ 0 → take_while in_line (l ++ z) ≡ l ++ take_while in_line z
goes_on [] z h = refl
goes_on (c ∷ l) z h = goes_on_by (c == 10) c l z refl (goes_on l z) h

-- what follows a line feed doesn't
stops_by : (b : Bool) (c : ℕ) (l z : List ℕ) → (c == 10) ≡ b → (0 < feeds l → take_while in_line (l ++ z) ≡ take_while in_line l) → 0 < feeds (c ∷ l)
    → take_while in_line (c ∷ (l ++ z)) ≡ take_while in_line (c ∷ l)
stops_by true c l z e rest h = line_cons c (l ++ z) true e ∙ sym (line_cons c l true e)
stops_by false c l z e rest h = line_cons c (l ++ z) false e ∙ ap (λ t. c ∷ t) (rest (omega (arith, h, feeds_cons c l false e))) ∙ sym (line_cons c l false e)

stops : (l z : List ℕ) → 0 < feeds l → take_while in_line (l ++ z) ≡ take_while in_line l
stops [] z h = absurd (omega (arith, h))
stops (c ∷ l) z h = stops_by (c == 10) c l z refl (stops l z) h

feeds_reversed : (l : List ℕ) → feeds (reverse l) ≡ feeds l
feeds_reversed l = sum_by-IsPermutation (λ x. cond (x == 10) 1 0) l (reverse l) (IsPermutation-reverse l)

first_column : (before octets : List ℕ) → feeds octets ≡ 0 → column_of (before ++ octets) + 1 ≡ column_of before + column_of octets
first_column before octets h =
    let none : feeds (reverse octets) ≡ 0 = feeds_reversed octets ∙ h in
    let joined : last_line (before ++ octets) ≡ reverse octets ++ last_line before = ap (take_while in_line) (reverse-append before octets) ∙ goes_on (reverse octets) (reverse before) none in
    let alone : last_line octets ≡ reverse octets = ap (take_while in_line) (sym (append-nil (reverse octets))) ∙ goes_on (reverse octets) [] none ∙ append-nil (reverse octets) in
    let both = ap (count_by begins_character) joined ∙ sum_by-append (λ x. cond (begins_character x) 1 0) (reverse octets) (last_line before) in
    omega (arith, both, ap (count_by begins_character) alone)

later_column : (before octets : List ℕ) → 0 < feeds octets → column_of (before ++ octets) ≡ column_of octets
later_column before octets h =
    ap (λ l. count_by begins_character l + 1)
    (ap (take_while in_line) (reverse-append before octets) ∙ stops (reverse octets) (reverse before) (omega (arith, h, feeds_reversed octets)))

feeds_both : (before octets : List ℕ) → feeds (before ++ octets) ≡ feeds before + feeds octets
feeds_both before octets = sum_by-append (λ x. cond (x == 10) 1 0) before octets

pub followed_first : (lines : ℕ) (before octets : List ℕ) (start within p : Position) → IsAt lines before start → IsAt 0 octets within → within.line ≡ 1
    → p.line ≡ start.line → p.column + 1 ≡ start.column + within.column → IsAt lines (before ++ octets) p
followed_first lines before octets start within p at in_octets first line column =
    let none : feeds octets ≡ 0 = omega (arith, first, in_octets.0) in (
      omega (arith, line, at.0, none, feeds_both before octets),
      omega (arith, column, at.1, in_octets.1, first_column before octets none),
    )

pub followed_later : (lines : ℕ) (before octets : List ℕ) (start within p : Position) → IsAt lines before start → IsAt 0 octets within → 1 < within.line
    → p.line + 1 ≡ start.line + within.line → p.column ≡ within.column → IsAt lines (before ++ octets) p
followed_later lines before octets start within p at in_octets later line column =
    let some : 0 < feeds octets = omega (arith, later, in_octets.0) in (
      omega (arith, line, at.0, in_octets.0, feeds_both before octets),
      column ∙ in_octets.1 ∙ sym (later_column before octets some),
    )
