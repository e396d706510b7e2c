-- Orders of serials.
use Rattle.std.proofs.Common.{◌≡◌, ℕ, ◌+◌, ◌-◌, ◌<◌, ◌≤◌, ◌%◌, ◌^◌, ◌⊎◌, inl, inr, refl, arith}
use Rattle.std.proofs.lemmas.Bool.{cases_lt, cases_order}
use Rattle.zone_serial.specs.SerialArithmetic.{IsLessByDistance, IsSerialAfter, serial_sum}
use Rattle.zone_serial.specs.SerialLaws.{SumsMatchDistances, ThreeStepsReach, farthest_from}

-- a sum that stays below 2^32 is greater, and one that doesn't is less by the rest
less_by_sum : (old new n : ℕ) → old < 2 ^ 32 → 0 < n → n < 2 ^ 31 → new ≡ (old + n) % 2 ^ 32 → (old + n < 2 ^ 32) ⊎ (2 ^ 32 ≤ old + n) → IsLessByDistance 32 old new
less_by_sum old new n p h k e (inl s) = inl (omega arith, omega arith)
less_by_sum old new n p h k e (inr s) = inr (omega arith, omega arith)

sum_by_less : (old new : ℕ) → old < 2 ^ 32 → new < 2 ^ 32 → IsLessByDistance 32 old new → IsSerialAfter 32 old new
sum_by_less old new p q (inl h) = (new - old, omega (arith, h.0), omega (arith, h.1), omega (arith, h.0))
sum_by_less old new p q (inr h) = ((2 ^ 32 - old) + new, omega arith, omega (arith, h.1), omega (arith, h.0))

pub sums_match_distances : SumsMatchDistances
sums_match_distances old new p q = ((λ a. less_by_sum old new a.0 p a.1 a.2 a.3 (cases_lt (old + a.0) (2 ^ 32))), sum_by_less old new p q)

-- the steps, by the distance
steps_by : (old new d : ℕ) → old < 2 ^ 32 → new < 2 ^ 32 → d ≡ (new + (2 ^ 32 - old)) % 2 ^ 32 → (d < 2 ^ 31) ⊎ (2 ^ 31 ≤ d) → (d < 1) ⊎ (1 ≤ d) → (d < 2 ^ 32 - 1) ⊎ (2 ^ 32 - 1 ≤ d)
    → IsSerialAfter 32 old new ⊎ (IsSerialAfter 32 (farthest_from old) new ⊎ IsSerialAfter 32 (farthest_from (farthest_from old)) new)
steps_by old new d p q e (inl small) (inl none) far = inr (inr (2, omega arith, omega arith, omega arith))
steps_by old new d p q e (inl small) (inr some) far = inl (d, some, small, omega arith)
steps_by old new d p q e (inr large) first (inl near) = inr (inl (d - (2 ^ 31 - 1), omega arith, omega arith, omega arith))
steps_by old new d p q e (inr large) first (inr last) = inr (inr (1, omega arith, omega arith, omega arith))

pub three_steps_reach : ThreeStepsReach
three_steps_reach old new p q =
    let d : ℕ = (new + (2 ^ 32 - old)) % 2 ^ 32 in steps_by old new d p q refl (cases_lt d (2 ^ 31)) (cases_lt d 1) (cases_lt d (2 ^ 32 - 1))

-- a serial that is neither greater nor less, nor the same, is at a distance of 2^31
opposite_above : (old number : ℕ) → old < 2 ^ 32 → number < 2 ^ 32 → old < number → (IsSerialAfter 32 old number → ⊥) → (IsSerialAfter 32 number old → ⊥)
    → (number - old < 2 ^ 31) ⊎ (2 ^ 31 ≤ number - old) → (2 ^ 31 < number - old) ⊎ (number - old ≤ 2 ^ 31) → number ≡ serial_sum 32 old (2 ^ 31)
opposite_above old number p q less a b (inl near) far = absurd (a (sum_by_less old number p q (inl (less, near))))
opposite_above old number p q less a b (inr s) (inl far) = absurd (b (sum_by_less number old q p (inr (less, far))))
opposite_above old number p q less a b (inr s) (inr t) = omega arith

opposite_below : (old number : ℕ) → old < 2 ^ 32 → number < 2 ^ 32 → number < old → (IsSerialAfter 32 old number → ⊥) → (IsSerialAfter 32 number old → ⊥)
    → (old - number < 2 ^ 31) ⊎ (2 ^ 31 ≤ old - number) → (2 ^ 31 < old - number) ⊎ (old - number ≤ 2 ^ 31) → number ≡ serial_sum 32 old (2 ^ 31)
opposite_below old number p q less a b (inl near) far = absurd (b (sum_by_less number old q p (inl (less, near))))
opposite_below old number p q less a b (inr s) (inl far) = absurd (a (sum_by_less old number p q (inr (less, far))))
opposite_below old number p q less a b (inr s) (inr t) = omega arith

opposite_by : (old number : ℕ) → old < 2 ^ 32 → number < 2 ^ 32 → (number ≡ old → ⊥) → (IsSerialAfter 32 old number → ⊥) → (IsSerialAfter 32 number old → ⊥)
    → (number ≡ old) ⊎ ((number < old) ⊎ (old < number)) → number ≡ serial_sum 32 old (2 ^ 31)
opposite_by old number p q other a b (inl same) = absurd (other same)
opposite_by old number p q other a b (inr (inl less)) = opposite_below old number p q less a b (cases_lt (old - number) (2 ^ 31)) (cases_lt (2 ^ 31) (old - number))
opposite_by old number p q other a b (inr (inr more)) = opposite_above old number p q more a b (cases_lt (number - old) (2 ^ 31)) (cases_lt (2 ^ 31) (number - old))

pub opposite : (old number : ℕ) → old < 2 ^ 32 → number < 2 ^ 32 → (number ≡ old → ⊥) → (IsSerialAfter 32 old number → ⊥) → (IsSerialAfter 32 number old → ⊥) → number ≡ serial_sum 32 old (2 ^ 31)
opposite old number p q other a b = opposite_by old number p q other a b (cases_order number old)
