-- Computed examples of the definitions.
use Rattle.std.specs.Prelude.{◌≡◌, true, false, [], ◌∷◌, map, None, Ok, Err, codes, refl}
use Rattle.std.specs.Char.{encode_utf8}
use Rattle.dns_symbol.specs.Symbol.{spell, is_escape_by, is_readable, octet_of, ascii_of, char_of, digit_of, is_word_char, may_be_in_word}
use Rattle.dns_symbol.specs.Printed.{text_of, is_unquoted_escape, is_quoted_escape, is_plain_escape}
use Rattle.dns_symbol.specs.Index.{BeginsWith, octets_error}
use Rattle.dns_symbol.specs.Text.{SymbolsOf, chars_error}
use Rattle.dns_symbol.specs.declared.escape.EscapeRule.TheVariants.{Printable, AnyOctet}
use Rattle.dns_symbol.specs.declared.symbol.Symbol.TheVariants.{Char, SimpleEscape, DecimalEscape}
use Rattle.dns_symbol.specs.declared.error.SymbolCharsError.TheVariants.{BadEscape as Bad, ShortInput as Short}
use Rattle.dns_symbol.specs.declared.error.SymbolOctetsError.TheVariants.{BadUtf8, BadEscape, ShortInput}
use Rattle.dns_symbol.specs.declared.error.BadSymbol.TheVariants.{NonAscii, NonUtf8, NonDigit, Escape}

-- ---- spellings

spell_plain : spell (Char 233) ≡ 233 ∷ []
spell_plain = refl

spell_simple : spell (SimpleEscape 46) ≡ codes "\\."
spell_simple = refl

-- always three digits
spell_decimal : map spell (DecimalEscape 7 ∷ DecimalEscape 65 ∷ DecimalEscape 255 ∷ []) ≡ codes "\\007" ∷ codes "\\065" ∷ codes "\\255" ∷ []
spell_decimal = refl

-- no surrogate, no plain backslash, no escaped digit or control, no octet above 255
readable_not : map is_readable (Char 0xD800 ∷ Char 92 ∷ SimpleEscape 48 ∷ SimpleEscape 10 ∷ SimpleEscape 127 ∷ DecimalEscape 256 ∷ []) ≡ false ∷ false ∷ false ∷ false ∷ false ∷ false ∷ []
readable_not = refl

readable_all : map is_readable (Char 0 ∷ Char 233 ∷ Char 0x1F600 ∷ SimpleEscape 92 ∷ SimpleEscape 32 ∷ DecimalEscape 0 ∷ []) ≡ true ∷ true ∷ true ∷ true ∷ true ∷ true ∷ []
readable_all = refl

-- a digit is escaped by neither rule; a tab, the delete octet and one of 0x80 or more by that of name servers alone; no octet has the number 256
escapes_printable : map (is_escape_by Printable) (SimpleEscape 32 ∷ SimpleEscape 126 ∷ SimpleEscape 48 ∷ SimpleEscape 9 ∷ SimpleEscape 127 ∷ SimpleEscape 200 ∷ DecimalEscape 255 ∷ DecimalEscape 256 ∷ Char 97 ∷ [])
    ≡ true ∷ true ∷ false ∷ false ∷ false ∷ false ∷ true ∷ false ∷ false ∷ []
escapes_printable = refl

escapes_any : map (is_escape_by AnyOctet) (SimpleEscape 32 ∷ SimpleEscape 126 ∷ SimpleEscape 48 ∷ SimpleEscape 9 ∷ SimpleEscape 127 ∷ SimpleEscape 200 ∷ DecimalEscape 255 ∷ DecimalEscape 256 ∷ Char 97 ∷ [])
    ≡ true ∷ true ∷ false ∷ true ∷ true ∷ true ∷ true ∷ false ∷ false ∷ []
escapes_any = refl

-- ---- values of symbols

octet_rows : map octet_of (Char 126 ∷ Char 233 ∷ Char 6 ∷ SimpleEscape 46 ∷ DecimalEscape 200 ∷ []) ≡ Ok 126 ∷ Err NonAscii ∷ Err NonAscii ∷ Ok 46 ∷ Ok 200 ∷ []
octet_rows = refl

ascii_rows : map ascii_of (DecimalEscape 65 ∷ DecimalEscape 200 ∷ []) ≡ Ok 65 ∷ Err NonAscii ∷ []
ascii_rows = refl

char_rows : map char_of (SimpleEscape 65 ∷ DecimalEscape 65 ∷ Char 233 ∷ []) ≡ Ok 65 ∷ Err NonUtf8 ∷ Ok 233 ∷ []
char_rows = refl

-- `F` to base 16, then `f`, `é` and `\048` to base 10
digit_sixteen : digit_of 16 (Char 70) ≡ Ok 15
digit_sixteen = refl

digit_ten : map (digit_of 10) (Char 102 ∷ Char 233 ∷ DecimalEscape 48 ∷ []) ≡ Err NonDigit ∷ Err NonDigit ∷ Err Escape ∷ []
digit_ten = refl

-- space, tab, CR, LF, both parentheses, the semicolon and the double quote
word_not : map is_word_char (32 ∷ 9 ∷ 13 ∷ 10 ∷ 40 ∷ 41 ∷ 59 ∷ 34 ∷ []) ≡ false ∷ false ∷ false ∷ false ∷ false ∷ false ∷ false ∷ false ∷ []
word_not = refl

word_escapes : map may_be_in_word (SimpleEscape 40 ∷ DecimalEscape 40 ∷ Char 233 ∷ []) ≡ true ∷ true ∷ true ∷ []
word_escapes = refl

-- ---- printed forms

plain_rows : map (text_of is_plain_escape) (codes "f\"oo" ∷ codes "f;oo" ∷ codes "f oo" ∷ codes "f\noo" ∷ codes "a(b)" ∷ codes "f\\oo" ∷ [])
    ≡ codes "f\"oo" ∷ codes "f;oo" ∷ codes "f oo" ∷ codes "f\\010oo" ∷ codes "a(b)" ∷ codes "f\\\\oo" ∷ []
plain_rows = refl

quoted_rows : map (text_of is_quoted_escape) (codes "f\"oo" ∷ codes "f;oo" ∷ codes "f oo" ∷ codes "f\noo" ∷ codes "a(b)" ∷ codes "f\\oo" ∷ [])
    ≡ codes "f\\\"oo" ∷ codes "f;oo" ∷ codes "f oo" ∷ codes "f\\010oo" ∷ codes "a(b)" ∷ codes "f\\\\oo" ∷ []
quoted_rows = refl

unquoted_rows : map (text_of is_unquoted_escape) (codes "f\"oo" ∷ codes "f;oo" ∷ codes "f oo" ∷ codes "f\noo" ∷ codes "a(b)" ∷ codes "f\\oo" ∷ [])
    ≡ codes "f\\\"oo" ∷ codes "f\\;oo" ∷ codes "f\\ oo" ∷ codes "f\\010oo" ∷ codes "a\\(b\\)" ∷ codes "f\\\\oo" ∷ []
unquoted_rows = refl

-- ---- octets: C3 A9 and F0 9F 98 80 begin with a character, and `\255` with an escape

begins_two : BeginsWith (0xC3 ∷ 0xA9 ∷ []) (Char 233) []
unfolding encode_utf8
begins_two = record { readable = refl; spelled = refl }

begins_four : BeginsWith (0xF0 ∷ 0x9F ∷ 0x98 ∷ 0x80 ∷ []) (Char 0x1F600) []
unfolding encode_utf8
begins_four = record { readable = refl; spelled = refl }

begins_decimal : BeginsWith (codes "\\2557") (DecimalEscape 255) (codes "7")
unfolding encode_utf8
begins_decimal = record { readable = refl; spelled = refl }

-- overlong forms, a surrogate, a lone continuation, a lead without its continuation
errors_utf8 : map octets_error ((0xC0 ∷ 0xAE ∷ []) ∷ (0xE0 ∷ 0x9F ∷ 0xBF ∷ []) ∷ (0xF0 ∷ 0x8F ∷ 0xBF ∷ 0xBF ∷ []) ∷ (0xED ∷ 0xA0 ∷ 0x80 ∷ []) ∷ (0x80 ∷ []) ∷
    (0xE2 ∷ 0x28 ∷ []) ∷ (0xF8 ∷ 0x80 ∷ 0x80 ∷ []) ∷ [])
    ≡ BadUtf8 ∷ BadUtf8 ∷ BadUtf8 ∷ BadUtf8 ∷ BadUtf8 ∷ BadUtf8 ∷ BadUtf8 ∷ []
errors_utf8 = refl

-- what may still become a character, or an escape
errors_short : map octets_error ((0xFF ∷ []) ∷ (0xF8 ∷ 0x80 ∷ []) ∷ (0xE2 ∷ 0x82 ∷ []) ∷ (0xF0 ∷ 0x80 ∷ []) ∷ codes "\\" ∷ codes "\\1" ∷ codes "\\99" ∷ [])
    ≡ ShortInput ∷ ShortInput ∷ ShortInput ∷ ShortInput ∷ ShortInput ∷ ShortInput ∷ ShortInput ∷ []
errors_short = refl

-- a backslash before `é`, before DEL, before a digit and `é`, and `\256`
errors_escape : map octets_error ((92 ∷ 0xC3 ∷ 0xA9 ∷ []) ∷ (92 ∷ 0x7F ∷ []) ∷ (92 ∷ 49 ∷ 0xC3 ∷ 0xA9 ∷ []) ∷ codes "\\256" ∷ []) ≡ BadEscape ∷ BadEscape ∷ BadEscape ∷ BadEscape ∷ []
errors_escape = refl

-- ---- texts

text_whole : SymbolsOf (codes "fo\\112\\.") (Char 102 ∷ Char 111 ∷ DecimalEscape 112 ∷ SimpleEscape 46 ∷ []) None
unfolding encode_utf8
text_whole = record { rest = []; readable = refl; spelled = refl; ends = refl }

text_errors : map chars_error (codes "\\2" ∷ codes "\\" ∷ codes "\\2a" ∷ codes "\\999" ∷ []) ≡ Short ∷ Short ∷ Bad ∷ Bad ∷ []
text_errors = refl
