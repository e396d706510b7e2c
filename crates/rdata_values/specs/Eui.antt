-- EUI-48 and EUI-64 addresses (RFC 7043).
use Rattle.std.specs.Prelude.{ℕ, ◌≡◌, ◌<◌, ◌+◌, ◌-◌, ◌*◌, List, [], ◌∷◌, ◌++◌, length, All, slice_index}
use Rattle.rdata_values.specs.Hex.{IsPair, pair_text}
use Rattle.rdata_values.specs.Kind.{IsKind}
use Rattle.rdata_values.specs.declared.eui.Eui48.{Eui48}
use Rattle.rdata_values.specs.declared.eui.Eui64.{Eui64}

-- a dash before each pair except the first
abbrev pub AreDashes : List ℕ → ℕ → Type 0
AreDashes text pairs = (k : ℕ) → 0 < k → k < pairs → slice_index text (3 * k - 1) ≡ 45

-- a pair for each octet, and dashes between them
pub record IsDashed (text octets : List ℕ) : Type 0 where
  pub whole : length text + 1 ≡ 3 * length octets
  pub pairs : (k : ℕ) → k < length octets → IsPair text (3 * k) (slice_index octets k)
  pub dashes : AreDashes text (length octets)

-- a pair of digits in lower case for each octet, and dashes between them
abbrev pub dashed_text : List ℕ → List ℕ
dashed_text [] = []
dashed_text (o ∷ []) = pair_text 97 o
dashed_text (o ∷ p ∷ os) = pair_text 97 o ++ 45 ∷ dashed_text (p ∷ os)

abbrev pub SpellsEui48 : List ℕ → Eui48 → Type 0
SpellsEui48 text e = (length e.0 ≡ 6) × IsDashed text e.0

abbrev pub SpellsEui64 : List ℕ → Eui64 → Type 0
SpellsEui64 text e = (length e.0 ≡ 8) × IsDashed text e.0

-- the octets are `count` octets
abbrev pub AreEuiOctets : ℕ → List ℕ → Type 0
AreEuiOctets count octets = (length octets ≡ count) × All (λ o. o < 256) octets

abbrev pub EuisAreKind : Type 0
EuisAreKind = IsKind (λ e. AreEuiOctets 6 e.0) SpellsEui48 (λ e. dashed_text e.0) × IsKind (λ e. AreEuiOctets 8 e.0) SpellsEui64 (λ e. dashed_text e.0)
