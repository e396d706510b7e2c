-- The spelling of tokens and comments, an octet after another.
use Rattle.std.proofs.Common.{◌≡◌, ℕ, zero, suc, ◌+◌, ◌<◌, ◌≤◌, ◌==◌, Bool, true, false, ◌&&◌, ◌||◌, List, [], ◌∷◌, length, drop, get_or, refl, sym, ap, ◌∙◌, arith, drop-cons}
use Rattle.dns_lexer.specs.Run.{is_blank}
use Rattle.zone_format.specs.Columns.{has_second, spells}

pub other_length : (ls cs : List ℕ) → (length ls ≡ length cs → ⊥) → spells ls cs ≡ false
other_length [] [] h = absurd (h refl)
other_length [] (c ∷ cs) h = refl
other_length (l ∷ ls) [] h = refl
other_length (l ∷ ls) (c ∷ cs) h = ap (λ b. (c == l || c + 32 == l) && b) (other_length ls cs (λ e. h (ap suc e))) ∙ none (c == l || c + 32 == l)
  where
    none : (b : Bool) → (b && false) ≡ false
    none true = refl
    none false = refl

-- from an offset on
pub spells_at : (ls cs : List ℕ) (i : ℕ) → i < length ls → i < length cs
    → spells (drop i ls) (drop i cs) ≡ ((get_or cs i 0 == get_or ls i 0 || get_or cs i 0 + 32 == get_or ls i 0) && spells (drop (i + 1) ls) (drop (i + 1) cs))
spells_at ls cs i a b = ap (λ l. spells l (drop i cs)) (drop-cons ls i 0 a) ∙ ap (spells (get_or ls i 0 ∷ drop (suc i) ls)) (drop-cons cs i 0 b) ∙ next
  where
    next : spells (get_or ls i 0 ∷ drop (suc i) ls) (get_or cs i 0 ∷ drop (suc i) cs) ≡ ((get_or cs i 0 == get_or ls i 0 || get_or cs i 0 + 32 == get_or ls i 0) && spells (drop (i + 1) ls) (drop (i + 1) cs))
    next = let e : suc i ≡ i + 1 = omega arith in ap (λ n. (get_or cs i 0 == get_or ls i 0 || get_or cs i 0 + 32 == get_or ls i 0) && spells (drop n ls) (drop n cs)) e

pub second_at : (cs : List ℕ) (i j : ℕ) → j ≡ i + 1 → j < length cs → has_second (drop i cs) ≡ ((is_blank (get_or cs i 0) && (get_or cs j 0 == 59)) || has_second (drop j cs))
second_at cs i j e w =
    let n : j ≡ suc i = omega (arith, e) in
    ap has_second (drop-cons cs i 0 (omega (arith, e, w)) ∙ ap (λ k. get_or cs i 0 ∷ drop k cs) (sym n) ∙ ap (λ l. get_or cs i 0 ∷ l) (drop-cons cs j 0 w))
    ∙ ap (λ l. (is_blank (get_or cs i 0) && (get_or cs j 0 == 59)) || has_second l) (sym (drop-cons cs j 0 w))

pub second_last : (cs : List ℕ) (i : ℕ) → length cs ≤ i + 1 → has_second (drop i cs) ≡ false
second_last [] zero h = refl
second_last [] (suc i) h = refl
second_last (c ∷ []) zero h = refl
second_last (c ∷ d ∷ cs) zero h = absurd (omega (arith, h))
second_last (c ∷ cs) (suc i) h = second_last cs i (omega (arith, h))
