-- Computed examples of the definitions on small inputs.
use Rattle.std.specs.Prelude.{◌≡◌, [], ◌∷◌, codes, refl}
use Rattle.std.specs.Char.{encode_utf8}
use Rattle.std.specs.declared.cmp.Ordering.TheVariants.{Less, Equal, Greater}
use Rattle.dns_symbol.specs.Printed.{text_of, is_plain_escape, is_unquoted_escape}
use Rattle.dns_symbol.specs.declared.symbol.Symbol.TheVariants.{Char, SimpleEscape, DecimalEscape}
use Rattle.dns_octets.specs.Lowered.{lowered_order}
use Rattle.dns_charstr.specs.Order.{wire_order}
use Rattle.dns_charstr.specs.Printed.{quoted_text, hex_text, lower_digits, upper_digits}
use Rattle.dns_charstr.specs.Reading.{HasOctets}
use Rattle.dns_charstr.specs.Wire.{wire_of}

-- a double quote, a semicolon, a space, a line feed, a backslash and parentheses in the three forms
quote_plain : text_of is_plain_escape (codes "f\"oo") ≡ codes "f\"oo"
quote_plain = refl

quote_quoted : quoted_text (codes "f\"oo") ≡ codes "\"f\\\"oo\""
quote_quoted = refl

quote_unquoted : text_of is_unquoted_escape (codes "f\"oo") ≡ codes "f\\\"oo"
quote_unquoted = refl

semicolon_quoted : quoted_text (codes "f;oo") ≡ codes "\"f;oo\""
semicolon_quoted = refl

semicolon_unquoted : text_of is_unquoted_escape (codes "f;oo") ≡ codes "f\\;oo"
semicolon_unquoted = refl

space_quoted : quoted_text (codes "f oo") ≡ codes "\"f oo\""
space_quoted = refl

space_unquoted : text_of is_unquoted_escape (codes "f oo") ≡ codes "f\\ oo"
space_unquoted = refl

line_feed_plain : text_of is_plain_escape (codes "f\noo") ≡ codes "f\\010oo"
line_feed_plain = refl

line_feed_quoted : quoted_text (codes "f\noo") ≡ codes "\"f\\010oo\""
line_feed_quoted = refl

backslash_quoted : quoted_text (codes "f\\oo") ≡ codes "\"f\\\\oo\""
backslash_quoted = refl

parentheses_quoted : quoted_text (codes "a(b)") ≡ codes "\"a(b)\""
parentheses_quoted = refl

parentheses_unquoted : text_of is_unquoted_escape (codes "a(b)") ≡ codes "a\\(b\\)"
parentheses_unquoted = refl

-- digits of octets
lower_hex : hex_text lower_digits (10 ∷ 255 ∷ []) ≡ codes "0aff"
lower_hex = refl

upper_hex : hex_text upper_digits (10 ∷ 255 ∷ []) ≡ codes "0AFF"
upper_hex = refl

-- comparisons without the case of letters
case_aside : lowered_order (codes "abc") (codes "ABC") ≡ Equal
case_aside = refl

first_letter : lowered_order (codes "a") (codes "BC") ≡ Less
first_letter = refl

longer_is_greater : lowered_order (codes "abc") (codes "a") ≡ Greater
longer_is_greater = refl

-- between the upper and the lower case letters, an underscore
below_letters : lowered_order (codes "_") (codes "A") ≡ Less
below_letters = refl

-- and the canonical order
case_canonical : wire_order (codes "a") (codes "B") ≡ Greater
case_canonical = refl

length_canonical : wire_order (codes "B") (codes "aa") ≡ Less
length_canonical = refl

-- wire formats
wire_some : wire_of (codes "foo") ≡ 3 ∷ codes "foo"
wire_some = refl

wire_none : wire_of [] ≡ 0 ∷ []
wire_none = refl

-- texts that are read
simple_escape : HasOctets (codes "f\\oo") (codes "foo")
unfolding encode_utf8
simple_escape = record {
  symbols = Char 102 ∷ SimpleEscape 111 ∷ Char 111 ∷ [];
  read = record { rest = []; readable = refl; spelled = refl; ends = refl };
  octets_are = refl;
}

decimal_escape : HasOctets (codes "foo\\112") (codes "foop")
unfolding encode_utf8
decimal_escape = record {
  symbols = Char 102 ∷ Char 111 ∷ Char 111 ∷ DecimalEscape 112 ∷ [];
  read = record { rest = []; readable = refl; spelled = refl; ends = refl };
  octets_are = refl;
}

plain_parentheses : HasOctets (codes "a(b)") (codes "a(b)")
unfolding encode_utf8
plain_parentheses = record {
  symbols = Char 97 ∷ Char 40 ∷ Char 98 ∷ Char 41 ∷ [];
  read = record { rest = []; readable = refl; spelled = refl; ends = refl };
  octets_are = refl;
}
