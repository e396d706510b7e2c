-- The prefixes of escapes, and the characters that end them.
use Rattle.std.proofs.Common.{◌≡◌, ℕ, ◌+◌, ◌*◌, ◌/◌, ◌%◌, ◌<◌, ◌≤◌, ◌⊎◌, inl, inr, true, false, [], ◌∷◌, refl, arith, ⊎_elim, subst, Option, Some}
use Rattle.std.specs.Char.{IsDigitOf}
use Rattle.std.proofs.lemmas.Bool.{cases_lt}
use Rattle.std.proofs.lemmas.Bool.Decides.{nat_tests}
use Rattle.dns_symbol.specs.Symbol.{is_readable, is_digit, is_printable}
use Rattle.dns_symbol.specs.Index.{is_cut_escape}
use Rattle.dns_symbol.specs.Reading.{IsRefusedAt, CharsBeginNone}
use Rattle.dns_symbol.specs.declared.symbol.Symbol.TheVariants.{Char, SimpleEscape, DecimalEscape}

-- a backslash and one digit, or two
pub cut_one : (a : ℕ) → is_digit a ≡ true → is_cut_escape (92 ∷ a ∷ []) ≡ true
cut_one a p = rw p refl

pub cut_two : (a b : ℕ) → is_digit a ≡ true → is_digit b ≡ true → is_cut_escape (92 ∷ a ∷ b ∷ []) ≡ true
cut_two a b p q = rw (p, q) refl

-- a plain character isn't a backslash
no_plain : (x : ℕ) → is_readable (Char x) ≡ true → x ≡ 92 → ⊥
no_plain x h e = grind (arith, nat_tests)

-- a simple escape never names a digit
no_digit : (o a : ℕ) → is_readable (SimpleEscape o) ≡ true → is_digit a ≡ true → o ≡ a → ⊥
no_digit o a h p e = grind (arith, nat_tests)

-- after a backslash, a character that is not printable
none_second : (c : ℕ) → is_printable c ≡ false → CharsBeginNone (92 ∷ c ∷ [])
none_second c out more rest (Char x) h e = let f : x ≡ 92 = cc e in no_plain x h f
none_second c out more rest (SimpleEscape o) h e = let f : o ≡ c = cc e in grind (arith, nat_tests)
none_second c out more rest (DecimalEscape o) h e =
    let f : 48 + o / 100 ≡ c = cc e in
    let low : o < 256 = grind (arith, nat_tests) in
    let few : o / 100 < 3 = omega arith in
    grind (arith, nat_tests)

pub refused_second : (c : ℕ) → is_printable c ≡ false → IsRefusedAt (92 ∷ c ∷ [])
refused_second c out =
    let no : is_digit c ≡ false = grind (arith, nat_tests) in
    (92 ∷ [], c, refl, refl, rw no refl, none_second c out)

-- after a backslash and one digit, a character that isn't a digit
none_third : (a c : ℕ) → is_digit a ≡ true → is_digit c ≡ false → CharsBeginNone (92 ∷ a ∷ c ∷ [])
none_third a c p out more rest (Char x) h e = let f : x ≡ 92 = cc e in no_plain x h f
none_third a c p out more rest (SimpleEscape o) h e = let f : o ≡ a = cc e in no_digit o a h p f
none_third a c p out more rest (DecimalEscape o) h e =
    let f : 48 + o / 10 % 10 ≡ c = cc e in
    let few : o / 10 % 10 < 10 = omega arith in
    grind (arith, nat_tests)

pub refused_third : (a c : ℕ) → is_digit a ≡ true → is_digit c ≡ false → IsRefusedAt (92 ∷ a ∷ c ∷ [])
refused_third a c p out = (92 ∷ a ∷ [], c, cut_one a p, refl, rw (p, out) refl, none_third a c p out)

-- after a backslash and two digits, a character that isn't a digit
none_fourth : (a b c : ℕ) → is_digit a ≡ true → is_digit c ≡ false → CharsBeginNone (92 ∷ a ∷ b ∷ c ∷ [])
none_fourth a b c p out more rest (Char x) h e = let f : x ≡ 92 = cc e in no_plain x h f
none_fourth a b c p out more rest (SimpleEscape o) h e = let f : o ≡ a = cc e in no_digit o a h p f
none_fourth a b c p out more rest (DecimalEscape o) h e =
    let f : 48 + o % 10 ≡ c = cc e in
    let few : o % 10 < 10 = omega arith in
    grind (arith, nat_tests)

pub refused_fourth : (a b c : ℕ) → is_digit a ≡ true → is_digit b ≡ true → is_digit c ≡ false → IsRefusedAt (92 ∷ a ∷ b ∷ c ∷ [])
refused_fourth a b c p q out = (92 ∷ a ∷ b ∷ [], c, cut_two a b p q, refl, refl, none_fourth a b c p out)

-- three digits whose value exceeds 255
none_value : (a b c : ℕ) → a < 10 → b < 10 → c < 10 → 255 < a * 100 + b * 10 + c → CharsBeginNone (92 ∷ (48 + a) ∷ (48 + b) ∷ (48 + c) ∷ [])
none_value a b c p q r over more rest (Char x) h e = let f : x ≡ 92 = cc e in no_plain x h f
none_value a b c p q r over more rest (SimpleEscape o) h e =
    let f : o ≡ 48 + a = cc e in grind (arith, nat_tests)
none_value a b c p q r over more rest (DecimalEscape o) h e =
    let f : 48 + o / 100 ≡ 48 + a = cc e in
    let g : 48 + o / 10 % 10 ≡ 48 + b = cc e in
    let k : 48 + o % 10 ≡ 48 + c = cc e in
    let low : o < 256 = grind (arith, nat_tests) in
    omega (arith, f, g, k, low)

pub refused_value : (a b c : ℕ) → a < 10 → b < 10 → c < 10 → 255 < a * 100 + b * 10 + c → IsRefusedAt (92 ∷ (48 + a) ∷ (48 + b) ∷ (48 + c) ∷ [])
refused_value a b c p q r over = (
  92 ∷ (48 + a) ∷ (48 + b) ∷ [],
  48 + c,
  cut_two (48 + a) (48 + b) (digit a p) (digit b q),
  refl,
  refl,
  none_value a b c p q r over,
)
  where
    digit : (d : ℕ) → d < 10 → is_digit (48 + d) ≡ true
    digit d h = grind (arith, nat_tests)

-- the three digits of a value made of them
pub hundreds_of : (a b c : ℕ) → b < 10 → c < 10 → (a * 100 + b * 10 + c) / 100 ≡ a
hundreds_of a b c q r = omega arith

pub tens_of : (a b c : ℕ) → a < 10 → b < 10 → c < 10 → (a * 100 + b * 10 + c) / 10 % 10 ≡ b
tens_of a b c p q r = omega arith

pub ones_of : (a b c : ℕ) → c < 10 → (a * 100 + b * 10 + c) % 10 ≡ c
ones_of a b c r = omega arith

-- the digit that a value below ten was read from
pub digit_of : (c d : ℕ) → IsDigitOf c d → d < 10 → c ≡ 48 + d
digit_of c d h small = ⊎_elim (λ p. omega arith) (⊎_elim (λ p. absurd (omega arith)) (λ p. absurd (omega arith))) h

pub digit_from : (c d : ℕ) → IsDigitOf c d → d < 10 → is_digit c ≡ true
digit_from c d h small = let e = digit_of c d h small in grind (arith, nat_tests)

pub no_digit_from : (c : ℕ) → (48 ≤ c → c ≤ 57 → 58 ≤ c) → is_digit c ≡ false
no_digit_from c h = by_cases (cases_lt c 48) (cases_lt 57 c)
  where
    by_cases : (c < 48) ⊎ (48 ≤ c) → (57 < c) ⊎ (c ≤ 57) → is_digit c ≡ false
    by_cases (inl low) _ = grind (arith, nat_tests)
    by_cases (inr above) (inl high) = grind (arith, nat_tests)
    by_cases (inr above) (inr below) = let e : 58 ≤ c = h above below in absurd (omega arith)

-- the steps of an iterator, one after another
module _ {S : Type 0} (steps : S → Option ℕ → S → Type 0) where
  pub step_at : (s j : S) (a b : ℕ) → a ≡ b → steps s (Some a) j → steps s (Some b) j
  step_at s j a b same h = let P : ℕ → Type 0 = λ n. steps s (Some n) j in subst P same h
