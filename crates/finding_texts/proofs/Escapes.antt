-- Escapes of a text, one after another.
use Rattle.std.proofs.Common.{ℕ, zero, suc, ◌≡◌, ◌-◌, ◌<◌, ◌≤◌, ◌^◌, true, false, cond, Some, List, [], ◌∷◌, length, drop, inl, inr, refl, sym, ap, ◌∙◌, arith}
use native.Mathlib.Numerals.{unary_clauses}
use Rattle.std.specs.Prelude.{nat_lt, ◌&&◌}
use Rattle.std.specs.List.{find}
use Rattle.std.specs.Str.{all_ascii_digits}
use Rattle.std.specs.Str.Parse.{IsNumeral, digits_value}
use Rattle.std.proofs.lemmas.Bool.{cases_Bool}
use Rattle.std.proofs.lemmas.List.{length-drop}
use Rattle.std.proofs.lemmas.Str.Parse.{IsNumeralModel, digits_value_short, numerals_by_value, tells_all_ascii_digits}
use Rattle.finding_texts.specs.Mistakes.{are_high, begins_high, spelled_after, spelled_len, spelled_rests}

pub some_len : (text : List ℕ) → 0 < spelled_len text
some_len [] = grind arith
some_len (c ∷ []) = grind arith
some_len (c ∷ d ∷ cs) = grind arith

drop_first : (n c : ℕ) (cs : List ℕ) → 0 < n → drop n (c ∷ cs) ≡ drop (n - 1) cs
drop_first zero c cs h = absurd (omega (arith, h))
drop_first (suc n) c cs h = simp unary_clauses refl

skips : (n : ℕ) (text : List ℕ) → spelled_after n text ≡ spelled_rests (drop n text)
unfolding spelled_after
skips zero text = refl
skips (suc n) [] = refl
skips (suc n) (c ∷ cs) = skips n cs

pub begins : (text : List ℕ) → 0 < length text → spelled_rests text ≡ text ∷ spelled_rests (drop (spelled_len text) text)
unfolding spelled_after
begins [] h = absurd (omega (arith, h))
begins (c ∷ cs) h =
    let n : ℕ = spelled_len (c ∷ cs) in
    ap (λ l. (c ∷ cs) ∷ l) (skips (n - 1) cs ∙ ap spelled_rests (sym (drop_first n c cs (some_len (c ∷ cs)))))

-- what is left gets shorter
pub shorter : (text : List ℕ) → 0 < length text → length (drop (spelled_len text) text) < length text
shorter text h = omega (arith, h, some_len text, length-drop (spelled_len text) text)

pub nothing : (text : List ℕ) → length text ≡ 0 → text ≡ []
nothing [] h = refl
nothing (c ∷ cs) h = absurd (omega (arith, h))

-- the first escape above 255 is at the beginning, or later
pub found_first : (text : List ℕ) → 0 < length text → begins_high text ≡ true → find begins_high (spelled_rests text) ≡ Some text
found_first text some h = ap (find begins_high) (begins text some) ∙ ap (λ b. cond b (Some text) (find begins_high (spelled_rests (drop (spelled_len text) text)))) h

pub found_later : (text : List ℕ) → 0 < length text → begins_high text ≡ false → find begins_high (spelled_rests text) ≡ find begins_high (spelled_rests (drop (spelled_len text) text))
found_later text some h = ap (find begins_high) (begins text some) ∙ ap (λ b. cond b (Some text) (find begins_high (spelled_rests (drop (spelled_len text) text)))) h

-- ---- three digits

digits : IsNumeralModel (λ ds. all_ascii_digits ds ≡ true) (digits_value 10)
digits = numerals_by_value (λ ds. all_ascii_digits ds ≡ true) tells_all_ascii_digits

pub high_number : (ds : List ℕ) (n : ℕ) → IsNumeral 10 ds → n ≡ digits_value 10 ds → nat_lt 255 n ≡ are_high ds
high_number ds n h e = ap (nat_lt 255) e ∙ sym (ap (λ b. b && nat_lt 255 (digits_value 10 ds)) (digits.from ds h.1))

pub no_number : (ds : List ℕ) → (IsNumeral 10 ds → ⊥) → false ≡ are_high ds
no_number [] h = refl
no_number (c ∷ cs) h = elim (cases_Bool (all_ascii_digits (c ∷ cs))) [
  | inl e ↦ absurd (h (omega arith, digits.to (c ∷ cs) e))
  | inr e ↦ sym (ap (λ b. b && nat_lt 255 (digits_value 10 (c ∷ cs))) e)
]

pub no_large_number : (ds : List ℕ) → length ds ≤ 3 → IsNumeral 10 ds → 2 ^ 16 ≤ digits_value 10 ds → ⊥
no_large_number ds short h large = omega (arith, large, digits_value_short digits ds 3 (digits.from ds h.1) short)
