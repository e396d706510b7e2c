-- Names in zone files (RFC 1035 section 5.1), with the escapes that BIND prints: no octet is printed as one with a meaning in zone files.
use Rattle.std.specs.Prelude.{ℕ, Bool, ◌==◌, ◌||◌, ◌&&◌, nat_lt, nat_le, if◌then◌else◌, List, encode_utf8_all}
use Rattle.std.specs.List.{flat_map}
use Rattle.dns_symbol.specs.Characters.{space, double_quote, open_parenthesis, close_parenthesis, dot, semicolon, backslash, tilde}
use Rattle.dns_symbol.specs.Symbol.{spell}
use Rattle.dns_symbol.specs.declared.symbol.Symbol.{Symbol}
use Rattle.dns_symbol.specs.declared.symbol.Symbol.TheVariants.{Char, SimpleEscape, DecimalEscape}
use Rattle.dns_wire.specs.Printed.{dotted_by}

-- the sign of a directive
abbrev dollar_sign : ℕ
dollar_sign = 36

-- the sign of the origin
abbrev origin_sign : ℕ
origin_sign = 64

-- a backslash precedes these
abbrev pub is_zone_escape : ℕ → Bool
is_zone_escape o = o == double_quote || o == dollar_sign || o == open_parenthesis || o == close_parenthesis || o == dot || o == semicolon || o == origin_sign || o == backslash

-- the others from 0x21 to 0x7E are plain, and each other octet is a backslash and its three decimal digits
abbrev pub zone_symbol : ℕ → Symbol
zone_symbol o = if is_zone_escape o then SimpleEscape o else (if nat_lt space o && nat_le o tilde then Char o else DecimalEscape o)

-- the characters of a label
abbrev pub zone_label : List ℕ → List ℕ
zone_label = flat_map (λ o. spell (zone_symbol o))

-- the bytes of a name: its labels joined by dots, with a dot at the end if it ends in the root; the root alone is one dot, no labels are no text
abbrev pub zone_text : List (List ℕ) → List ℕ
zone_text labels = encode_utf8_all (dotted_by zone_label labels)
