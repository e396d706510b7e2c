-- The words of an angle parse to one angle.
use Rattle.std.proofs.Common.{ℕ, ◌≡◌, ◌<◌, ◌≤◌, ◌+◌, ◌*◌, ◌^◌, Option, Some, None, List, [], ◌∷◌, ◌++◌, get_or, sym, subst, arith, ap, ◌∙◌, inl, inr, append_assoc, append-nil}
use Rattle.std.specs.Prelude.{SomeIff}
use Rattle.std.specs.Char.{digit_value}
use Rattle.rdata_values.specs.Numbers.{SpellsNumber}
use Rattle.rdata_tails.specs.declared.angles.Axis.{Axis}
use Rattle.rdata_tails.specs.declared.angles.Axis.TheVariants.{Latitude, Longitude}
use Rattle.rdata_tails.specs.Decimals.{SpellsDecimal}
use Rattle.rdata_tails.specs.Locations.{most_degrees, most_angle, upper_side, lower_side, SpellsDegrees, SpellsMinutes, SpellsSeconds, SpellsSide, Finds}
use Rattle.rdata_tails.proofs.DecimalLemmas.{one_decimal}

pub most_le : (axis : Axis) → most_degrees axis ≤ 180
most_le Latitude = omega arith
most_le Longitude = omega arith

-- ---- degrees

pub one_degrees : (axis : Axis) (text : List ℕ) (n m : ℕ) → SpellsDegrees axis text n → SpellsDegrees axis text m → n ≡ m
one_degrees axis text n m h k = let same : h.0 ≡ k.0 = h.1.1 ∙ sym k.1.1 in omega (arith, h.2, k.2, same)

-- ---- minutes

pub one_minutes : (axis : Axis) (before : ℕ) (text : List ℕ) (n m : ℕ) → SpellsMinutes axis before text n → SpellsMinutes axis before text m → n ≡ m
one_minutes axis before text n m h k = let same : h.0 ≡ k.0 = h.1.1 ∙ sym k.1.1 in omega (arith, h.3, k.3, same)

-- ---- seconds

pub no_seconds : (axis : Axis) (before : ℕ) (text : List ℕ) → ((n : ℕ) → n < 2 ^ 32 * 10 ^ 3 → SpellsDecimal 3 text n → ⊥) → (angle : ℕ) → SpellsSeconds axis before text angle → ⊥
no_seconds axis before text none angle h = none h.0 (omega (arith, h.2)) h.1

pub many_seconds : (axis : Axis) (before : ℕ) (text : List ℕ) (seconds : ℕ) → SpellsDecimal 3 text seconds → 60000 ≤ seconds → (angle : ℕ) → SpellsSeconds axis before text angle → ⊥
many_seconds axis before text seconds own many angle h = let same = one_decimal 3 text h.0 seconds h.1 own in omega (arith, h.2, same, many)

pub seconds_bounded : (axis : Axis) (before : ℕ) (text : List ℕ) (seconds : ℕ) (r : Option ℕ) → SpellsDecimal 3 text seconds → seconds < 60000 → SomeIff r (before + seconds ≤ most_angle axis) (before + seconds) → Finds (SpellsSeconds axis before) text r
seconds_bounded axis before text seconds None own few h = λ angle k. let same = one_decimal 3 text k.0 seconds k.1 own in h (omega (arith, k.3, k.4, same))
seconds_bounded axis before text seconds (Some n) own few h = (seconds, own, few, h.1, omega (arith, h.0, h.1))

pub one_seconds : (axis : Axis) (before : ℕ) (text : List ℕ) (n m : ℕ) → SpellsSeconds axis before text n → SpellsSeconds axis before text m → n ≡ m
one_seconds axis before text n m h k = let same = one_decimal 3 text h.0 k.0 h.1 k.1 in omega (arith, h.3, k.3, same)

-- ---- sides

-- a text begins with a digit
abbrev pub BeginsWithDigit : List ℕ → Type 0
BeginsWithDigit text = digit_value (get_or text 0 0) < 10

pub number_digit : (text more : List ℕ) (n : ℕ) → SpellsNumber text n → BeginsWithDigit (text ++ more)
number_digit [] more n h = absurd (omega (arith, h.0.0))
number_digit (c ∷ cs) more n h = h.0.1.0

pub decimal_digit : (places : ℕ) (text : List ℕ) (n : ℕ) (more : List ℕ) → SpellsDecimal places text n → BeginsWithDigit (text ++ more)
decimal_digit places text n more (inl h) = number_digit text more h.0 h.1
decimal_digit places text n more (inr h) = subst BeginsWithDigit (sym (ap (λ t. t ++ more) h.written ∙ append_assoc h.before (46 ∷ h.after) more)) (number_digit h.before (46 ∷ (h.after ++ more)) h.whole h.whole_is)

side_letter : (axis : Axis) (angle : ℕ) (text : List ℕ) (n : ℕ) → SpellsSide axis angle text n → BeginsWithDigit text → ⊥
side_letter Latitude angle text n (inl h) digit = let own = subst BeginsWithDigit h.0 digit in omega (arith, own)
side_letter Latitude angle text n (inr h) digit = let own = subst BeginsWithDigit h.0 digit in omega (arith, own)
side_letter Longitude angle text n (inl h) digit = let own = subst BeginsWithDigit h.0 digit in omega (arith, own)
side_letter Longitude angle text n (inr h) digit = let own = subst BeginsWithDigit h.0 digit in omega (arith, own)

-- a side is not a number or a decimal
pub side_no_number : (axis : Axis) (angle : ℕ) (text : List ℕ) (n m : ℕ) → SpellsSide axis angle text n → SpellsNumber text m → ⊥
side_no_number axis angle text n m h k = side_letter axis angle text n h (subst BeginsWithDigit (append-nil text) (number_digit text [] m k))

pub side_no_decimal : (axis : Axis) (angle : ℕ) (text : List ℕ) (n places m : ℕ) → SpellsSide axis angle text n → SpellsDecimal places text m → ⊥
side_no_decimal axis angle text n places m h k = side_letter axis angle text n h (subst BeginsWithDigit (append-nil text) (decimal_digit places text m [] k))

other_sides : (axis : Axis) → upper_side axis ≡ lower_side axis → ⊥
other_sides Latitude e = let same : 78 ≡ 83 = ap (λ t. get_or t 0 0) e in omega (arith, same)
other_sides Longitude e = let same : 69 ≡ 87 = ap (λ t. get_or t 0 0) e in omega (arith, same)

pub one_side : (axis : Axis) (angle : ℕ) (text : List ℕ) (n m : ℕ) → SpellsSide axis angle text n → SpellsSide axis angle text m → n ≡ m
one_side axis angle text n m (inl h) (inl k) = omega (arith, h.1, k.1)
one_side axis angle text n m (inl h) (inr k) = absurd (other_sides axis (sym h.0 ∙ k.0))
one_side axis angle text n m (inr h) (inl k) = absurd (other_sides axis (sym k.0 ∙ h.0))
one_side axis angle text n m (inr h) (inr k) = omega (arith, h.1, k.1)
