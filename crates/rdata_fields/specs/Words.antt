-- Fields that are one word in presentation format, and have a constant length in wire format.
use Rattle.std.specs.Prelude.{ℕ, ◌≡◌, ◌-◌, ◌<◌, ◌≤◌, ◌⊎◌, List, length, All}
use Rattle.std.specs.Str.Parse.{IsNumeral, digits_value}
use Rattle.rdata_values.specs.Numbers.{SpellsNumber}
use Rattle.rdata_values.specs.declared.error.ErrorKind.{ErrorKind}
use Rattle.rdata_values.specs.declared.error.ErrorKind.TheVariants.{ExpectedNumber, NumberOverflow}

-- a text spells a value that has these octets
abbrev pub SpellsAs : {V : Type 0} → (V → Type 0) → (List ℕ → V → Type 0) → (V → List ℕ) → List ℕ → List ℕ → Type 0
SpellsAs {V} valid spells wire text octets = (v : V) × valid v × spells text v × (octets ≡ wire v)

-- the octets are `width` octets
abbrev pub AreOctetsOf : ℕ → List ℕ → Type 0
AreOctetsOf width octets = (length octets ≡ width) × All (λ o. o < 256) octets

-- A value has a constant length; what octets print as spells the value of these octets; and a text
-- spells one value.
pub record IsWordKind {V : Type 0} (width : ℕ) (valid : V → Type 0) (spells : List ℕ → V → Type 0) (wire : V → List ℕ) (printed : List ℕ → List ℕ) : Type 0 where
  pub sized : (v : V) → valid v → AreOctetsOf width (wire v)
  pub spelled : (octets : List ℕ) → AreOctetsOf width octets → SpellsAs valid spells wire (printed octets) octets
  pub once : (text : List ℕ) (v w : V) → spells text v → spells text w → wire v ≡ wire w

-- the text spells no value, for this reason
abbrev pub RefusesWord : {V : Type 0} → (V → Type 0) → (ErrorKind → Type 0) → ErrorKind → Type 0
RefusesWord {V} spelled reason e = reason e × ((v : V) → spelled v → ⊥)

-- decimal digits of a number below a limit
abbrev pub SpellsBelow : ℕ → List ℕ → ℕ → Type 0
SpellsBelow limit text n = SpellsNumber text n × (n < limit)

-- why there is not a number below a limit: the text is not decimal digits, or they are those of a greater number
abbrev pub NumberReason : ℕ → List ℕ → ErrorKind → Type 0
NumberReason limit text e =
    ((e ≡ ExpectedNumber) × (IsNumeral 10 text → ⊥)) ⊎ ((e ≡ NumberOverflow (limit - 1)) × IsNumeral 10 text × (limit ≤ digits_value 10 text))
