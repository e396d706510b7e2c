-- The octets of the display types, and the texts that they print.
use Rattle.std.specs.Prelude.{Bool, if◌then◌else◌, ℕ, ◌/◌, ◌%◌, List, [], ◌∷◌, ◌++◌, codes, slice_index}
use Rattle.std.specs.List.{flat_map}
use Rattle.dns_symbol.specs.Characters.{double_quote}
use Rattle.dns_symbol.specs.Printed.{text_of, is_quoted_escape}
use Rattle.dns_charstr.specs.declared.charstr.display.DisplayQuoted.{DisplayQuoted}
use Rattle.dns_charstr.specs.declared.charstr.display.DisplayUnquoted.{DisplayUnquoted}
use Rattle.dns_charstr.specs.declared.charstr.display.HexDisplay.{HexDisplay}

-- the octets that each of them shows
abbrev pub quoted_octets : DisplayQuoted → List ℕ
quoted_octets d = d.octets.now

abbrev pub unquoted_octets : DisplayUnquoted → List ℕ
unquoted_octets d = d.octets.now

abbrev pub octets_in_hex : {is_upper : ℕ} → HexDisplay is_upper → List ℕ
octets_in_hex d = d.octets.now

-- the characters of the quoted form, with a double quote at each end
abbrev pub quoted_text : List ℕ → List ℕ
quoted_text octets = double_quote ∷ text_of is_quoted_escape octets ++ double_quote ∷ []

-- two digits an octet, the higher one first
abbrev pub hex_text : List ℕ → List ℕ → List ℕ
hex_text digits = flat_map (λ o. slice_index digits (o / 16) ∷ slice_index digits (o % 16) ∷ [])

abbrev pub lower_digits : List ℕ
lower_digits = codes "0123456789abcdef"

abbrev pub upper_digits : List ℕ
upper_digits = codes "0123456789ABCDEF"

-- the digits in a case
abbrev pub hex_digits : Bool → List ℕ
hex_digits is_upper = if is_upper then upper_digits else lower_digits
