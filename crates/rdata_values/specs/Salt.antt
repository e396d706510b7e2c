-- Salts (RFC 5155 section 3.3).
use Rattle.std.specs.Prelude.{ℕ, ◌≡◌, ◌<◌, ◌≤◌, ◌⊎◌, List, [], ◌∷◌, length, All, codes}
use Rattle.rdata_values.specs.Hex.{IsHex, pairs_text}
use Rattle.rdata_values.specs.Kind.{IsKind}

-- a dash for an empty salt, or 1 to 255 octets in hexadecimal digits
abbrev pub SpellsSalt : List ℕ → List ℕ → Type 0
SpellsSalt text octets = ((text ≡ codes "-") × (octets ≡ [])) ⊎ (IsHex text octets × (0 < length octets) × (length octets ≤ 255))

abbrev pub salt_text : List ℕ → List ℕ
salt_text [] = codes "-"
salt_text (o ∷ os) = pairs_text (o ∷ os)

abbrev pub SaltsAreKind : Type 0
SaltsAreKind = IsKind (λ octets. All (λ o. o < 256) octets × (length octets ≤ 255)) SpellsSalt salt_text
