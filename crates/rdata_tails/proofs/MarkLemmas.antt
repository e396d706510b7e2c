-- A text has one first mark and one last mark.
use Rattle.std.proofs.Common.{ℕ, zero, suc, ◌≡◌, ◌≤◌, List, [], ◌∷◌, ◌++◌, get_or, drop, refl, sym, subst, arith, ap}
use Rattle.std.specs.Char.{digit_value}
use Rattle.std.specs.Str.Parse.{AllDigits}
use Rattle.rdata_tails.specs.Marks.{LacksMark}

pub digits_lack : (digits : List ℕ) (mark : ℕ) → 10 ≤ digit_value mark → AllDigits 10 digits → LacksMark mark digits
digits_lack [] mark other all k here = absurd (omega (arith, here))
digits_lack (d ∷ ds) mark other all zero here = λ e. let same : digit_value d ≡ digit_value mark = ap digit_value e in omega (arith, same, all.0, other)
digits_lack (d ∷ ds) mark other all (suc k) here = digits_lack ds mark other all.1 k (omega (arith, here))

-- the text before the first mark, and the text after it
pub one_first : (a b c d : List ℕ) (mark : ℕ) → LacksMark mark a → LacksMark mark c → a ++ mark ∷ b ≡ c ++ mark ∷ d → (a ≡ c) × (b ≡ d)
one_first [] b [] d mark lacks_a lacks_c e = (refl, ap (drop 1) e)
one_first [] b (x ∷ c) d mark lacks_a lacks_c e = absurd (lacks_c 0 (omega arith) (sym (ap (λ t. get_or t 0 0) e)))
one_first (x ∷ a) b [] d mark lacks_a lacks_c e = absurd (lacks_a 0 (omega arith) (ap (λ t. get_or t 0 0) e))
one_first (x ∷ a) b (y ∷ c) d mark lacks_a lacks_c e =
    let first : x ≡ y = ap (λ t. get_or t 0 0) e in
    let later = one_first a b c d mark (λ k here. lacks_a (suc k) (omega (arith, here))) (λ k here. lacks_c (suc k) (omega (arith, here))) (ap (drop 1) e) in
    ((λ i. first i ∷ later.0 i), later.1)

pub at_mark : (a b : List ℕ) (mark : ℕ) → LacksMark mark (a ++ mark ∷ b) → ⊥
at_mark [] b mark lacks = lacks 0 (omega arith) refl
at_mark (x ∷ a) b mark lacks = at_mark a b mark (λ k here. lacks (suc k) (omega (arith, here)))

-- the text before the last mark, and the text after it
pub one_last : (a b c d : List ℕ) (mark : ℕ) → LacksMark mark b → LacksMark mark d → a ++ mark ∷ b ≡ c ++ mark ∷ d → (a ≡ c) × (b ≡ d)
one_last [] b [] d mark lacks_b lacks_d e = (refl, ap (drop 1) e)
one_last [] b (x ∷ c) d mark lacks_b lacks_d e = absurd (at_mark c d mark (subst (LacksMark mark) (ap (drop 1) e) lacks_b))
one_last (x ∷ a) b [] d mark lacks_b lacks_d e = absurd (at_mark a b mark (subst (LacksMark mark) (ap (drop 1) (sym e)) lacks_d))
one_last (x ∷ a) b (y ∷ c) d mark lacks_b lacks_d e =
    let first : x ≡ y = ap (λ t. get_or t 0 0) e in
    let later = one_last a b c d mark lacks_b lacks_d (ap (drop 1) e) in
    ((λ i. first i ∷ later.0 i), later.1)
