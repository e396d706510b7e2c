-- The parts of a record's text: fields, and their arrangement in the multiline layout.
use Rattle.std.specs.Prelude.{ℕ, ◌≡◌, ◌&&◌, Bool, true, List, [], ◌∷◌, map, encode_utf8_all}
use Rattle.std.specs.Fmt.{decimal}
use Rattle.std.specs.List.{list_all}
use Rattle.dns_symbol.specs.Symbol.{is_printable}
use Rattle.dns_codec.specs.Base.{base16, base64, encoded}
use Rattle.dns_charstr.specs.Printed.{quoted_text}
use Rattle.dns_zone.specs.EntryFields.{field_text, text_octets}
use Rattle.dns_zone.specs.Layout.{Step, token, begin, end, comment}
use Rattle.dns_zone.specs.Nesting.{is_nested}
use Rattle.dns_wire.specs.ZoneText.{zone_text}
use Rattle.custom_record.specs.Values.{Value, number8, number16, number32, name, hex, base64_octets, string, listed, long_text}

-- a field, a character string that needs no double quotes, a note on what precedes it, or a parenthesis of a block
pub data Part : Type 0 where
  field : Value → Part
  unquoted : List ℕ → Part
  note : List ℕ → Part
  opens : Part
  closes : Part

-- the token of a value: a character string is between double quotes
abbrev pub value_token : Value → List ℕ
value_token (number8 n) = decimal n
value_token (number16 n) = decimal n
value_token (number32 n) = decimal n
value_token (name labels) = zone_text labels
value_token (hex octets) = encoded base16 octets
value_token (base64_octets octets) = encoded base64 octets
value_token (string octets) = encode_utf8_all (quoted_text octets)
value_token (listed octets) = encode_utf8_all (quoted_text octets)
value_token (long_text octets) = encode_utf8_all (quoted_text octets)

-- the token of a text between double quotes
abbrev pub string_step : List ℕ → Step
string_step octets = token (encode_utf8_all (quoted_text octets))

abbrev pub step_of : Part → Step
step_of (field v) = token (value_token v)
step_of (unquoted octets) = token (field_text (text_octets octets))
step_of (note text) = comment text
step_of opens = begin
step_of closes = end

-- the document of parts
abbrev pub steps_of : List Part → List Step
steps_of = map step_of

-- the values that parts show
abbrev pub values_of : List Part → List Value
values_of [] = []
values_of (field v ∷ ps) = v ∷ values_of ps
values_of (unquoted octets ∷ ps) = string octets ∷ values_of ps
values_of (note text ∷ ps) = values_of ps
values_of (opens ∷ ps) = values_of ps
values_of (closes ∷ ps) = values_of ps

-- a note of printable ASCII, or any other part
abbrev pub is_plain : Part → Bool
is_plain (note text) = list_all is_printable text
is_plain (field v) = true
is_plain (unquoted octets) = true
is_plain opens = true
is_plain closes = true

-- blocks nest and close, and notes are printable ASCII
abbrev pub IsLaidOut : List Part → Type 0
IsLaidOut ps = (is_nested 0 (steps_of ps) && list_all is_plain ps) ≡ true

-- two values show the same fields
abbrev pub HasSameFields : {R : Type 0} → (R → List Part) → R → R → Type 0
HasSameFields parts x y = values_of (parts y) ≡ values_of (parts x)
