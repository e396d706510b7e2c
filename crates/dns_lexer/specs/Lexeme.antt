-- The pieces of a zone file (RFC 1035 section 5.1).
use Rattle.std.specs.Prelude.{ℕ, Bool, true, false, if◌then◌else◌, ◌&&◌, ◌||◌, ◌==◌, not, List, [], ◌∷◌, ◌++◌, encode_utf8_all}
use Rattle.std.specs.List.{flat_map, list_all}
use lib.Utf8.{scalar}
use Rattle.dns_symbol.specs.Characters.{tab, line_feed, carriage_return, space, double_quote, open_parenthesis, close_parenthesis, semicolon}
use Rattle.dns_symbol.specs.Symbol.{spell, is_readable, is_word_symbol}
use Rattle.dns_symbol.specs.declared.symbol.Symbol.{Symbol}
use Rattle.dns_symbol.specs.declared.symbol.Symbol.TheVariants.{Char, SimpleEscape, DecimalEscape}

-- the characters that may be plain between double quotes: not the double quote, LF or CR
abbrev pub is_quote_char : ℕ → Bool
is_quote_char c = not (c == double_quote || c == line_feed || c == carriage_return)

-- a symbol that may be between double quotes: an escape always may
abbrev pub may_be_in_quote : Symbol → Bool
may_be_in_quote (Char c) = is_quote_char c
may_be_in_quote (SimpleEscape o) = true
may_be_in_quote (DecimalEscape o) = true

-- the symbols of quoted strings
abbrev pub is_quote_symbol : Symbol → Bool
is_quote_symbol s = may_be_in_quote s && is_readable s

-- the characters of a comment: not LF or CR
abbrev pub is_note_char : ℕ → Bool
is_note_char c = scalar c && not (c == line_feed || c == carriage_return)

-- a blank is a space or a tab, a line ends in LF or CR LF, a note is a comment, a word has one symbol or more
pub data Lexeme : Type 0 where
  Blank : (is_tab : Bool) → Lexeme
  Line : (has_cr : Bool) → Lexeme
  Open : Lexeme
  Close : Lexeme
  Note : List ℕ → Lexeme
  Word : Symbol → List Symbol → Lexeme
  Quote : List Symbol → Lexeme

-- the characters that a lexeme is written as
abbrev pub characters : Lexeme → List ℕ
characters (Blank is_tab) = (if is_tab then tab else space) ∷ []
characters (Line true) = carriage_return ∷ line_feed ∷ []
characters (Line false) = line_feed ∷ []
characters Open = open_parenthesis ∷ []
characters Close = close_parenthesis ∷ []
characters (Note cs) = semicolon ∷ cs
characters (Word s ss) = flat_map spell (s ∷ ss)
characters (Quote ss) = double_quote ∷ (flat_map spell ss ++ double_quote ∷ [])

-- and their bytes
abbrev pub lexeme_bytes : Lexeme → List ℕ
lexeme_bytes l = encode_utf8_all (characters l)

-- a lexeme contains only what is allowed in it
abbrev pub is_lexeme : Lexeme → Bool
is_lexeme (Note cs) = list_all is_note_char cs
is_lexeme (Word s ss) = list_all is_word_symbol (s ∷ ss)
is_lexeme (Quote ss) = list_all is_quote_symbol ss
is_lexeme _ = true
