-- The values of a record's fields, and the texts that parse as them.
use Rattle.std.specs.Prelude.{ℕ, ◌≡◌, ◌⊎◌, ◌<◌, ◌≤◌, ◌^◌, List, [], ◌∷◌, length, All}
use Rattle.std.specs.Fmt.{decimal}
use Rattle.std.specs.List.{AllByRecursion}
use Rattle.dns_octets.specs.Room.{Room}
use Rattle.dns_codec.specs.Base.{base16, base64, encoded}
use Rattle.dns_wire.specs.Wire.{wire, wire_length, IsName, EndsInRoot}
use Rattle.dns_scan.specs.Octets.{IsPrinted}
use Rattle.dns_scan.specs.Tokens.{Token}
use Rattle.dns_wire.specs.ZoneText.{zone_text}

-- a number of 8, 16 or 32 bits, the labels of a name, octets in an encoding, the octets of a character string, by itself or in a list, or those of a text of any length
pub data Value : Type 0 where
  number8 : ℕ → Value
  number16 : ℕ → Value
  number32 : ℕ → Value
  name : List (List ℕ) → Value
  hex : List ℕ → Value
  base64_octets : List ℕ → Value
  string : List ℕ → Value
  listed : List ℕ → Value
  long_text : List ℕ → Value

-- the possible values of such a field: an encoding of no octets would have no text
abbrev pub IsValue : Value → Type 0
IsValue (number8 n) = n < 2 ^ 8
IsValue (number16 n) = n < 2 ^ 16
IsValue (number32 n) = n < 2 ^ 32
IsValue (name labels) = IsName labels × EndsInRoot labels × All (λ o. o < 256) (wire labels)
IsValue (hex octets) = All (λ o. o < 256) octets × (0 < length octets)
IsValue (base64_octets octets) = All (λ o. o < 256) octets × (0 < length octets)
IsValue (string octets) = All (λ o. o < 256) octets × (length octets ≤ 255)
IsValue (listed octets) = All (λ o. o < 256) octets × (length octets ≤ 255)
IsValue (long_text octets) = All (λ o. o < 256) octets

abbrev pub AreValues : List Value → Type 0
AreValues = AllByRecursion IsValue

-- the values of an entry: one at least
abbrev pub AreFields : List Value → Type 0
AreFields values = AreValues values × (0 < length values)

-- the text is that of the value, as it is parsed
abbrev pub IsText : Value → Token → Type 0
IsText (number8 n) text = text ≡ decimal n
IsText (number16 n) text = text ≡ decimal n
IsText (number32 n) text = text ≡ decimal n
IsText (name labels) text = text ≡ zone_text labels
IsText (hex octets) text = text ≡ encoded base16 octets
IsText (base64_octets octets) text = text ≡ encoded base64 octets
IsText (string octets) text = IsPrinted text octets
IsText (listed octets) text = IsPrinted text octets
IsText (long_text octets) text = IsPrinted text octets

-- texts of the values, and then others
abbrev pub AreTexts : List Value → List Token → List Token → Type 0
AreTexts [] texts others = texts ≡ others
AreTexts (v ∷ vs) [] others = ⊥
AreTexts (v ∷ vs) (t ∷ ts) others = IsText v t × AreTexts vs ts others

-- such a field may fail with "short buffer": it exceeds the guaranteed capacity, or it is in a list
abbrev pub MayLack : Room → Value → Type 0
MayLack room (number8 n) = ⊥
MayLack room (number16 n) = ⊥
MayLack room (number32 n) = ⊥
MayLack room (name labels) = room.fits < wire_length labels
MayLack room (hex octets) = room.fits < length octets
MayLack room (base64_octets octets) = room.fits < length octets
MayLack room (string octets) = room.fits < length octets
MayLack room (listed octets) = Unit {0}
MayLack room (long_text octets) = room.fits < length octets

-- some field may
abbrev pub SomeMayLack : (room : Room) → List Value → Type 0
SomeMayLack room [] = ⊥
SomeMayLack room (v ∷ vs) = MayLack room v ⊎ SomeMayLack room vs

-- the values of octets in base 16 and base 64
abbrev pub hex_values : List ℕ → List Value
hex_values octets = hex octets ∷ []

abbrev pub base64_values : List ℕ → List Value
base64_values octets = base64_octets octets ∷ []
