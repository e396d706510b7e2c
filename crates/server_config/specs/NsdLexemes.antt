-- The lexemes of an nsd.conf: blanks, comments, words and quoted strings.
use Rattle.std.specs.Prelude.{ℕ, suc, ◌+◌, Bool, not, ◌&&◌, ◌||◌, ◌==◌, if◌then◌else◌, List, [], ◌∷◌, Result, Err}
use Rattle.server_config.specs.Lexemes.{backslash_sign, gap_lexeme, hash_sign, is_config_blank, lexeme_of, line_len, quote_sign, quoted_lexeme, token_lexeme}
use Rattle.server_config.specs.declared.error.ConfigErrorKind.{ConfigErrorKind}
use Rattle.server_config.specs.declared.error.ConfigErrorKind.TheVariants.{MissingWord}
use Rattle.server_config.specs.declared.lexeme.ConfigSyntax.{ConfigSyntax}
use Rattle.server_config.specs.declared.lexeme.ConfigSyntax.TheVariants.{Named, Nsd}
use Rattle.server_config.specs.declared.lexeme.Lexeme.{Lexeme}
use Rattle.server_config.specs.declared.token.TokenKind.TheVariants.{Word}

-- a blank or a quote ends a word
abbrev pub ends_nsd_word : ℕ → Bool
ends_nsd_word c = is_config_blank c || (c == quote_sign)

-- how many octets of a word a text begins with: a backslash and any octet belong to it
abbrev pub nsd_word_len : Bool → List ℕ → ℕ
nsd_word_len is_escaped [] = 0
nsd_word_len is_escaped (c ∷ text) =
    if ends_nsd_word c && not is_escaped then 0 else suc (nsd_word_len ((c == backslash_sign) && not is_escaped) text)

-- the lexeme with which a text begins
abbrev pub nsd_lexeme_of : List ℕ → Result Lexeme ConfigErrorKind
nsd_lexeme_of [] = Err MissingWord
nsd_lexeme_of (c ∷ text) =
    if is_config_blank c then gap_lexeme 1
    else (if c == hash_sign then gap_lexeme (line_len text + 1)
    else (if c == quote_sign then quoted_lexeme text
    else token_lexeme Word (nsd_word_len (c == backslash_sign) text + 1)))

abbrev pub lexeme_in : ConfigSyntax → List ℕ → Result Lexeme ConfigErrorKind
lexeme_in Named text = lexeme_of text
lexeme_in Nsd text = nsd_lexeme_of text
