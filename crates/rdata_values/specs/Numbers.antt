-- Numbers of decimal digits.
use Rattle.std.specs.Prelude.{ℕ, ◌≡◌, ◌-◌, ◌<◌, ◌≤◌, ◌^◌, ◌⊎◌, List, Option, SomeIff, Result, Ok, MatchResult, decimal}
use Rattle.std.specs.Str.Parse.{IsNumeral, digits_value}
use Rattle.rdata_values.specs.declared.error.ErrorKind.{ErrorKind}
use Rattle.rdata_values.specs.declared.error.ErrorKind.TheVariants.{ExpectedNumber, NumberOverflow}

-- one or more decimal digits that write a number
abbrev pub SpellsNumber : List ℕ → ℕ → Type 0
SpellsNumber text n = IsNumeral 10 text × (n ≡ digits_value 10 text)

-- the number that a text writes if it is below a limit; or else an error: it is too large, with the
-- largest allowed, or the text is not a number
abbrev pub ReadsDecimal : ℕ → List ℕ → Result ℕ ErrorKind → Type 0
ReadsDecimal limit text r =
    MatchResult r (λ n. SpellsNumber text n × (n < limit))
    (λ e. ((e ≡ ExpectedNumber) × (IsNumeral 10 text → ⊥)) ⊎ ((e ≡ NumberOverflow (limit - 1)) × IsNumeral 10 text × (limit ≤ digits_value 10 text)))

-- the number of a text, if it is below 2^32
abbrev pub ReadsNumeral : List ℕ → Option ℕ → Type 0
ReadsNumeral text r = SomeIff r (IsNumeral 10 text × (digits_value 10 text < 2 ^ 32)) (digits_value 10 text)

-- a number below a limit that is printed and parsed is the same number
abbrev pub NumbersReadBack : Type 0
NumbersReadBack = (limit n : ℕ) (r : Result ℕ ErrorKind) → n < limit → limit ≤ 2 ^ 64 → ReadsDecimal limit (decimal n) r → r ≡ Ok n
