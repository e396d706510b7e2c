-- The lexemes of a named.conf: blanks, comments and tokens.
use Rattle.std.specs.Prelude.{ℕ, suc, ◌+◌, Bool, false, not, ◌&&◌, ◌||◌, ◌==◌, nat_lt, if◌then◌else◌, List, [], ◌∷◌, length, Result, Ok, Err}
use Rattle.server_config.specs.declared.error.ConfigError.{ConfigError}
use Rattle.server_config.specs.declared.error.ConfigErrorKind.{ConfigErrorKind}
use Rattle.server_config.specs.declared.error.ConfigErrorKind.TheVariants.{OpenComment, OpenQuote, MissingWord}
use Rattle.server_config.specs.declared.lexeme.Lexeme.{Lexeme}
use Rattle.server_config.specs.declared.lexeme.LexemeKind.TheVariants.{Gap, Token}
use Rattle.server_config.specs.declared.token.TokenKind.{TokenKind}
use Rattle.server_config.specs.declared.token.TokenKind.TheVariants.{Word, Quoted, OpenBrace, CloseBrace, Semicolon, Mark}

-- an error of the octets between two offsets
abbrev pub error_between : ℕ → ℕ → ConfigErrorKind → ConfigError
error_between at end kind = record { at = at; end = end; kind = kind }

abbrev pub hash_sign : ℕ
hash_sign = 35

abbrev pub star : ℕ
star = 42

abbrev pub slash_sign : ℕ
slash_sign = 47

abbrev pub quote_sign : ℕ
quote_sign = 34

abbrev pub backslash_sign : ℕ
backslash_sign = 92

-- a space, a tab, a line feed or a carriage return
abbrev pub is_config_blank : ℕ → Bool
is_config_blank c = (c == 32) || (c == 9) || (c == 10) || (c == 13)

-- a token by itself: a brace, a semicolon, an exclamation mark or a slash
abbrev pub is_mark : ℕ → Bool
is_mark c = (c == 123) || (c == 125) || (c == 59) || (c == 33) || (c == slash_sign)

-- a word has any other octets, except quotes and hash signs
abbrev pub is_word_octet : ℕ → Bool
is_word_octet c = not (is_config_blank c) && not (is_mark c) && not (c == quote_sign) && not (c == hash_sign)

-- how many octets come before the first line feed
abbrev pub line_len : List ℕ → ℕ
line_len [] = 0
line_len (c ∷ text) = if c == 10 then 0 else suc (line_len text)

-- how many octets of a word a text begins with
abbrev pub word_len : List ℕ → ℕ
word_len [] = 0
word_len (c ∷ text) = if is_word_octet c then suc (word_len text) else 0

-- the index of the first double quote that is not escaped by a backslash, or the length
abbrev pub closing_quote : Bool → List ℕ → ℕ
closing_quote is_escaped [] = 0
closing_quote is_escaped (c ∷ text) =
    if (c == quote_sign) && not is_escaped then 0 else suc (closing_quote ((c == backslash_sign) && not is_escaped) text)

-- the index of the first slash after a star, or the length
abbrev pub closing_slash : Bool → List ℕ → ℕ
closing_slash after_star [] = 0
closing_slash after_star (c ∷ text) = if (c == slash_sign) && after_star then 0 else suc (closing_slash (c == star) text)

-- a blank or a comment, and its number of octets
abbrev pub gap_lexeme : ℕ → Result Lexeme ConfigErrorKind
gap_lexeme len = Ok (record { kind = Gap; len = len })

-- a token, and its number of octets
abbrev pub token_lexeme : TokenKind → ℕ → Result Lexeme ConfigErrorKind
token_lexeme kind len = Ok (record { kind = Token kind; len = len })

-- after a double quote: up to the one that closes the string
abbrev pub quoted_lexeme : List ℕ → Result Lexeme ConfigErrorKind
quoted_lexeme text =
    if nat_lt (closing_quote false text) (length text) then token_lexeme Quoted (closing_quote false text + 2) else Err OpenQuote

-- after `/*`: up to the first `*/`
abbrev pub comment_lexeme : List ℕ → Result Lexeme ConfigErrorKind
comment_lexeme text = if nat_lt (closing_slash false text) (length text) then gap_lexeme (closing_slash false text + 3) else Err OpenComment

-- after a slash: a comment, if another slash or a star comes next; or else the slash is a token
abbrev pub after_slash : List ℕ → Result Lexeme ConfigErrorKind
after_slash [] = token_lexeme Mark 1
after_slash (c ∷ text) = if c == slash_sign then gap_lexeme (line_len text + 2) else (if c == star then comment_lexeme text else token_lexeme Mark 1)

-- what a mark is
abbrev pub mark_kind : ℕ → TokenKind
mark_kind c = if c == 123 then OpenBrace else (if c == 125 then CloseBrace else (if c == 59 then Semicolon else Mark))

-- the lexeme with which a text begins
abbrev pub lexeme_of : List ℕ → Result Lexeme ConfigErrorKind
lexeme_of [] = Err MissingWord
lexeme_of (c ∷ text) =
    if is_config_blank c then gap_lexeme 1
    else (if c == hash_sign then gap_lexeme (line_len text + 1)
    else (if c == slash_sign then after_slash text
    else (if c == quote_sign then quoted_lexeme text
    else (if is_mark c then token_lexeme (mark_kind c) 1
    else token_lexeme Word (word_len text + 1)))))
