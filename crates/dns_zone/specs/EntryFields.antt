-- The fields of an entry line, and the token that each prints as.
use Rattle.std.specs.Prelude.{ℕ, ◌<◌, ◌≤◌, ◌^◌, List, [], ◌∷◌, length, map, All, ⊤, encode_utf8_all}
use Rattle.std.specs.Fmt.{decimal}
use Rattle.dns_symbol.specs.Characters.{double_quote}
use Rattle.dns_codec.specs.Base.{base16, base64, encoded}
use Rattle.dns_symbol.specs.Printed.{text_of, is_unquoted_escape}
use Rattle.dns_zone.specs.declared.entry.Field.{Field}
use Rattle.dns_zone.specs.declared.entry.Field.TheVariants.{Number, Hex, Base64, Text}
use Rattle.dns_charstr.specs.Limits.{max_string}

-- the value of a field: a number, or octets and how they are printed
pub data Content : Type 0 where
  number : ℕ → Content
  hex_octets : List ℕ → Content
  base64_octets : List ℕ → Content
  text_octets : List ℕ → Content

abbrev pub content_of : {A : Type 0} → Field A → Content
content_of (Number n) = number n
content_of (Hex octets) = hex_octets octets.items
content_of (Base64 octets) = base64_octets octets.items
content_of (Text string) = text_octets string

abbrev pub contents_of : {A : Type 0} → List (Field A) → List Content
contents_of fields = map content_of fields

-- the possible values of a field: a number of 32 bits, octets, or a character string's octets
abbrev pub IsContent : Content → Type 0
IsContent (number n) = n < 2 ^ 32
IsContent (hex_octets os) = All (λ o. o < 256) os
IsContent (base64_octets os) = All (λ o. o < 256) os
IsContent (text_octets os) = All (λ o. o < 256) os × (length os ≤ max_string)

-- what can be a token: an encoding of no octets has no text, and can't be one
abbrev pub IsPrintable : Content → Type 0
IsPrintable (number n) = ⊤
IsPrintable (hex_octets os) = 0 < length os
IsPrintable (base64_octets os) = 0 < length os
IsPrintable (text_octets os) = ⊤

-- the token: in decimal, in the encoding, or the unquoted text; the empty text is two double quotes
abbrev pub field_text : Content → List ℕ
field_text (number n) = decimal n
field_text (hex_octets os) = encoded base16 os
field_text (base64_octets os) = encoded base64 os
field_text (text_octets []) = double_quote ∷ double_quote ∷ []
field_text (text_octets (o ∷ os)) = encode_utf8_all (text_of is_unquoted_escape (o ∷ os))
