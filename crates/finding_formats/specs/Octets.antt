-- JSON strings in which each octet is a character.
use Rattle.std.specs.Prelude.{ℕ, ◌/◌, ◌%◌, ◌==◌, ◌||◌, if◌then◌else◌, false, List, [], ◌∷◌, ◌++◌, codes}
use Rattle.std.specs.Fmt.{digit_glyph}
use Rattle.dns_symbol.specs.Characters.{double_quote, backslash}
use Rattle.dns_symbol.specs.Symbol.{is_printable}

-- a double quote and a backslash come after a backslash, and an octet that is not printable ASCII is \u00 and two digits of base 16
abbrev pub json_octet : ℕ → List ℕ
json_octet c = if c == double_quote || c == backslash then backslash ∷ c ∷ [] else if is_printable c then c ∷ [] else codes "\\u00" ++ digit_glyph false (c / 16) ∷ digit_glyph false (c % 16) ∷ []
