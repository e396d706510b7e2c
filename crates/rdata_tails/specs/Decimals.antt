-- Decimals with few digits after the point.
use Rattle.std.specs.Prelude.{ℕ, ◌≡◌, ◌<◌, ◌≤◌, ◌+◌, ◌-◌, ◌*◌, ◌^◌, ◌⊎◌, List, [], ◌∷◌, ◌++◌, length, Option, MatchOption}
use Rattle.rdata_values.specs.Numbers.{SpellsNumber}

-- digits, a point, and after it 1 to `places` digits, in units of the last of `places` digits
pub record HasPoint (places : ℕ) (text : List ℕ) (n : ℕ) : Type 0 where
  pub before : List ℕ
  pub after : List ℕ
  pub whole : ℕ
  pub part : ℕ
  pub written : text ≡ before ++ 46 ∷ after
  pub few : length after ≤ places
  pub whole_is : SpellsNumber before whole
  pub part_is : SpellsNumber after part
  pub value : n ≡ whole * 10 ^ places + part * 10 ^ (places - length after)

-- a decimal with at most `places` digits after the point, in units of the last of them: with a point, or without
abbrev pub SpellsDecimal : ℕ → List ℕ → ℕ → Type 0
SpellsDecimal places text n = ((whole : ℕ) × SpellsNumber text whole × (n ≡ whole * 10 ^ places)) ⊎ HasPoint places text n

-- the decimal of a text, found if its whole number is below 2^32
abbrev pub FindsDecimal : ℕ → List ℕ → Option ℕ → Type 0
FindsDecimal places text r = MatchOption r ((n : ℕ) → n < 2 ^ 32 * 10 ^ places → SpellsDecimal places text n → ⊥) (SpellsDecimal places text)

-- the digits after the point
abbrev pub FindsPart : ℕ → List ℕ → Option ℕ → Type 0
FindsPart places text r = MatchOption r ((part : ℕ) → length text ≤ places → SpellsNumber text part → ⊥)
    (λ n. (length text ≤ places) × (part : ℕ) × SpellsNumber text part × (n ≡ part * 10 ^ (places - length text)))

-- metres in centimetres: a decimal with two digits after the point, and an optional `m` after it
abbrev pub SpellsLength : List ℕ → ℕ → Type 0
SpellsLength text n = SpellsDecimal 2 text n ⊎ ((number : List ℕ) × (text ≡ number ++ 109 ∷ []) × SpellsDecimal 2 number n)

abbrev pub FindsLength : List ℕ → Option ℕ → Type 0
FindsLength text r = MatchOption r ((n : ℕ) → n < 2 ^ 32 * 10 ^ 2 → SpellsLength text n → ⊥) (SpellsLength text)
