-- What a token is: a word, or a quoted string with its quotes; and what a comment is.
use Rattle.std.specs.Prelude.{◌≡◌, ◌⊎◌, ℕ, ◌<◌, true, List, [], ◌∷◌, ◌++◌, length, encode_utf8_all}
use Rattle.std.specs.List.{flat_map, list_all}
use Rattle.dns_symbol.specs.Characters.{double_quote, semicolon}
use Rattle.dns_symbol.specs.Symbol.{bytes, is_word_symbol}
use Rattle.dns_symbol.specs.declared.symbol.Symbol.{Symbol}
use Rattle.dns_lexer.specs.Lexeme.{is_quote_symbol, is_note_char}

-- at least one symbol that may be in a word
pub record IsWord (text : List ℕ) : Type 0 where
  pub symbols : List Symbol
  pub some : 0 < length symbols
  pub valid : list_all is_word_symbol symbols ≡ true
  pub spelled : text ≡ flat_map bytes symbols

-- symbols that may be between double quotes, enclosed in double quotes
pub record IsQuote (text : List ℕ) : Type 0 where
  pub symbols : List Symbol
  pub valid : list_all is_quote_symbol symbols ≡ true
  pub spelled : text ≡ double_quote ∷ (flat_map bytes symbols ++ double_quote ∷ [])

-- a word, or a quoted string
abbrev pub IsToken : List ℕ → Type 0
IsToken text = IsWord text ⊎ IsQuote text

-- a semicolon, and characters other than LF and CR
pub record IsComment (text : List ℕ) : Type 0 where
  pub characters : List ℕ
  pub valid : list_all is_note_char characters ≡ true
  pub spelled : text ≡ encode_utf8_all (semicolon ∷ characters)
