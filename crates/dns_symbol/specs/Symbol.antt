-- Symbols: how they are spelled, and their values.
use Rattle.std.specs.Prelude.{ℕ, ◌+◌, ◌/◌, ◌%◌, Bool, true, false, ◌==◌, ◌&&◌, ◌||◌, not, nat_le, nat_lt, if◌then◌else◌, List, [], ◌∷◌, Result, Ok, Err, encode_utf8_all, codes}
use Rattle.std.specs.Char.{digit_value}
use lib.Utf8.{scalar}
use Rattle.dns_symbol.specs.Characters.{tab, line_feed, carriage_return, space, double_quote, open_parenthesis, close_parenthesis, semicolon, backslash, tilde}
use Rattle.dns_symbol.specs.declared.escape.EscapeRule.{EscapeRule}
use Rattle.dns_symbol.specs.declared.escape.EscapeRule.TheVariants.{Printable, AnyOctet}
use Rattle.dns_symbol.specs.declared.symbol.Symbol.{Symbol}
use Rattle.dns_symbol.specs.declared.symbol.Symbol.TheVariants.{Char, SimpleEscape, DecimalEscape}
use Rattle.dns_symbol.specs.declared.error.SymbolCharsError.{SymbolCharsError}
use Rattle.dns_symbol.specs.declared.error.SymbolCharsError.TheVariants.{BadEscape, ShortInput}
use Rattle.dns_symbol.specs.declared.error.SymbolOctetsError.{SymbolOctetsError}
use Rattle.dns_symbol.specs.declared.error.SymbolOctetsError.TheVariants.{BadUtf8, BadEscape as Bad, ShortInput as Short}
use Rattle.dns_symbol.specs.declared.error.BadSymbol.{BadSymbol}
use Rattle.dns_symbol.specs.declared.error.BadSymbol.TheVariants.{NonAscii, NonUtf8, NonDigit, Escape}

-- a digit from 0 to 9
abbrev pub is_digit : ℕ → Bool
is_digit c = nat_le 48 c && nat_le c 57

-- from the space to the tilde
abbrev pub is_printable : ℕ → Bool
is_printable c = nat_le space c && nat_le c tilde

-- the characters that a symbol is written as
abbrev pub spell : Symbol → List ℕ
spell (Char c) = c ∷ []
spell (SimpleEscape o) = backslash ∷ o ∷ []
spell (DecimalEscape o) = backslash ∷ (48 + o / 100) ∷ (48 + o / 10 % 10) ∷ (48 + o % 10) ∷ []

-- the bytes that a symbol is written as
abbrev pub bytes : Symbol → List ℕ
bytes s = encode_utf8_all (spell s)

-- which octets may follow a backslash, unless they are digits
abbrev pub may_be_escaped : EscapeRule → ℕ → Bool
may_be_escaped Printable o = is_printable o
may_be_escaped AnyOctet o = true

-- the escapes: an octet that may follow a backslash, or the number of any octet
abbrev pub is_escape_by : EscapeRule → Symbol → Bool
is_escape_by rule (Char c) = false
is_escape_by rule (SimpleEscape o) = may_be_escaped rule o && not (is_digit o)
is_escape_by rule (DecimalEscape o) = nat_lt o 256

-- the symbols that parse from their spelling: no plain backslash, no surrogate, and escapes of what is printable
abbrev pub is_readable : Symbol → Bool
is_readable (Char c) = scalar c && not (c == backslash)
is_readable (SimpleEscape o) = is_escape_by Printable (SimpleEscape o)
is_readable (DecimalEscape o) = is_escape_by Printable (DecimalEscape o)

-- the octet of a symbol, or the error
abbrev pub octet_of : Symbol → Result ℕ BadSymbol
octet_of (Char c) = if is_printable c then Ok c else Err NonAscii
octet_of (SimpleEscape o) = Ok o
octet_of (DecimalEscape o) = Ok o

-- the printable ASCII octet of a symbol, or the error
abbrev pub ascii_of : Symbol → Result ℕ BadSymbol
ascii_of (Char c) = if is_printable c then Ok c else Err NonAscii
ascii_of (SimpleEscape o) = if is_printable o then Ok o else Err NonAscii
ascii_of (DecimalEscape o) = if is_printable o then Ok o else Err NonAscii

-- the character of a symbol, or the error
abbrev pub char_of : Symbol → Result ℕ BadSymbol
char_of (Char c) = Ok c
char_of (SimpleEscape o) = if is_printable o then Ok o else Err NonUtf8
char_of (DecimalEscape o) = Err NonUtf8

-- the value of a symbol as a digit to a base, letters in either case, or the error
abbrev pub digit_of : ℕ → Symbol → Result ℕ BadSymbol
digit_of base (Char c) = if nat_lt (digit_value c) base then Ok (digit_value c) else Err NonDigit
digit_of base (SimpleEscape o) = Err Escape
digit_of base (DecimalEscape o) = Err Escape

-- the text of an error of characters
abbrev pub chars_error_text : SymbolCharsError → List ℕ
chars_error_text BadEscape = codes "illegal escape sequence"
chars_error_text ShortInput = codes "unexpected end of input"

-- the text of an error of octets
abbrev pub octets_error_text : SymbolOctetsError → List ℕ
octets_error_text BadUtf8 = codes "illegal UTF-8 sequence"
octets_error_text Bad = codes "illegal escape sequence"
octets_error_text Short = codes "unexpected end of data"

-- the text of the error if a symbol has no value of the requested kind
abbrev pub bad_symbol_text : BadSymbol → List ℕ
bad_symbol_text NonAscii = codes "non-ASCII symbol"
bad_symbol_text NonUtf8 = codes "invalid UTF-8 sequence"
bad_symbol_text NonDigit = codes "expected digit"
bad_symbol_text Escape = codes "unexpected escape sequence"

-- the characters that may be plain in a word: not the space, tab, LF, CR, a parenthesis, the semicolon or the double quote
abbrev pub is_word_char : ℕ → Bool
is_word_char c = not (c == space || c == tab || c == line_feed || c == carriage_return || c == open_parenthesis || c == close_parenthesis || c == semicolon || c == double_quote)

-- a symbol that may be part of a word: an escape always may
abbrev pub may_be_in_word : Symbol → Bool
may_be_in_word (Char c) = is_word_char c
may_be_in_word (SimpleEscape o) = true
may_be_in_word (DecimalEscape o) = true

-- the symbols of words: readable ones that may be part of a word
abbrev pub is_word_symbol : Symbol → Bool
is_word_symbol s = may_be_in_word s && is_readable s
