-- TTLs: a number of seconds, or periods with units.
use Rattle.std.specs.Prelude.{ℕ, ◌≡◌, ◌<◌, ◌*◌, ◌⊎◌, ◌==◌, ◌||◌, ◌^◌, List, [], ◌∷◌, ◌++◌, length, sum_by, All, Option, Some, None, MatchOption, if◌then◌else◌}
use Rattle.std.specs.List.{flat_map}
use Rattle.std.specs.Fmt.{decimal}
use Rattle.std.specs.Str.Parse.{IsNumeral, digits_value}
use Rattle.rdata_values.specs.Kind.{IsKind}
use Rattle.rdata_values.specs.Numbers.{SpellsNumber}

-- the seconds of a unit, by its letter in either case
abbrev pub unit_seconds : ℕ → Option ℕ
unit_seconds c =
    if c == 119 || c == 87 then Some (7 * 24 * 60 * 60)
    else (if c == 100 || c == 68 then Some (24 * 60 * 60)
    else (if c == 104 || c == 72 then Some (60 * 60)
    else (if c == 109 || c == 77 then Some 60
    else (if c == 115 || c == 83 then Some 1 else None))))

-- a period: a number, and the letter and the seconds of a unit
pub record Period : Type 0 where
  pub digits : List ℕ
  pub letter : ℕ
  pub unit : ℕ

abbrev pub IsPeriod : Period → Type 0
IsPeriod p = IsNumeral 10 p.digits × (unit_seconds p.letter ≡ Some p.unit)

abbrev pub period_text : Period → List ℕ
period_text p = p.digits ++ p.letter ∷ []

abbrev pub period_seconds : Period → ℕ
period_seconds p = digits_value 10 p.digits * p.unit

-- a text of periods, and the sum of their seconds
pub record IsPeriods (text : List ℕ) (seconds : ℕ) : Type 0 where
  pub periods : List Period
  pub each : All IsPeriod periods
  pub written : text ≡ flat_map period_text periods
  pub value : seconds ≡ sum_by period_seconds periods

-- a text that writes this number of seconds: as a number, or as periods
abbrev pub IsSeconds : List ℕ → ℕ → Type 0
IsSeconds text seconds = (0 < length text) × (SpellsNumber text seconds ⊎ IsPeriods text seconds)

-- a TTL is below 2^31, an interval below 2^32
abbrev pub SpellsTtl : List ℕ → ℕ → Type 0
SpellsTtl text seconds = IsSeconds text seconds × (seconds < 2 ^ 31)

abbrev pub SpellsInterval : List ℕ → ℕ → Type 0
SpellsInterval text seconds = IsSeconds text seconds × (seconds < 2 ^ 32)

-- a number below 2^32 that the text writes, or there is none
abbrev pub ReadsBelow : (List ℕ → ℕ → Type 0) → List ℕ → Option ℕ → Type 0
ReadsBelow writes text r = MatchOption r ((n : ℕ) → n < 2 ^ 32 → writes text n → ⊥) (λ n. (n < 2 ^ 32) × writes text n)

abbrev pub ReadsPeriods : List ℕ → Option ℕ → Type 0
ReadsPeriods = ReadsBelow IsPeriods

abbrev pub ReadsSeconds : List ℕ → Option ℕ → Type 0
ReadsSeconds = ReadsBelow IsSeconds

-- both print in decimal
abbrev pub TtlsAreKind : Type 0
TtlsAreKind = IsKind (λ n. n < 2 ^ 31) SpellsTtl decimal

abbrev pub IntervalsAreKind : Type 0
IntervalsAreKind = IsKind (λ n. n < 2 ^ 32) SpellsInterval decimal
