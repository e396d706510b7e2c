-- The printed forms of octets: which octets each form escapes simply.
use Rattle.std.specs.Prelude.{◌≡◌, ℕ, Bool, ◌==◌, ◌||◌, if◌then◌else◌, List, map, None, Ok, encode_utf8_all}
use Rattle.std.specs.List.{flat_map}
use Rattle.dns_symbol.specs.Characters.{space, double_quote, open_parenthesis, close_parenthesis, semicolon, backslash}
use Rattle.dns_symbol.specs.Symbol.{spell, is_printable, octet_of}
use Rattle.dns_symbol.specs.Text.{SymbolsOf}
use Rattle.dns_symbol.specs.declared.symbol.Symbol.{Symbol}
use Rattle.dns_symbol.specs.declared.symbol.Symbol.TheVariants.{Char, SimpleEscape, DecimalEscape}

-- the unquoted form escapes the space, the double quote, the backslash, the semicolon and both parentheses
abbrev pub is_unquoted_escape : ℕ → Bool
is_unquoted_escape o = o == space || o == double_quote || o == backslash || o == semicolon || o == open_parenthesis || o == close_parenthesis

-- the quoted form escapes the double quote and the backslash
abbrev pub is_quoted_escape : ℕ → Bool
is_quoted_escape o = o == double_quote || o == backslash

-- the plain form escapes the backslash alone
abbrev pub is_plain_escape : ℕ → Bool
is_plain_escape o = o == backslash

-- the symbol that an octet is printed as, in a form that escapes some octets simply
abbrev pub symbol_of : (ℕ → Bool) → ℕ → Symbol
symbol_of is_escape o = if is_printable o then (if is_escape o then SimpleEscape o else Char o) else DecimalEscape o

-- the characters of octets in that form
abbrev pub text_of : (ℕ → Bool) → List ℕ → List ℕ
text_of is_escape = flat_map (λ o. spell (symbol_of is_escape o))

-- the text of octets in that form has just their symbols, whose values are the octets
pub record IsReadBack (is_escape : ℕ → Bool) (octets : List ℕ) : Type 0 where
  pub read : SymbolsOf (encode_utf8_all (text_of is_escape octets)) (map (symbol_of is_escape) octets) None
  pub given : map octet_of (map (symbol_of is_escape) octets) ≡ map Ok octets
