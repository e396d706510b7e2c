-- The tokens of a configuration.
use Rattle.std.specs.Prelude.{ℕ, zero, suc, ◌+◌, ◌-◌, ◌&&◌, nat_le, if◌then◌else◌, take, List, [], ◌∷◌, length, drop, Option, None, Some, Result, Ok, Err}
use Rattle.server_config.specs.Lexemes.{error_between}
use Rattle.server_config.specs.NsdLexemes.{lexeme_in}
use Rattle.server_config.specs.declared.error.ConfigError.{ConfigError}
use Rattle.server_config.specs.declared.error.ConfigErrorKind.{ConfigErrorKind}
use Rattle.server_config.specs.declared.lexeme.ConfigSyntax.{ConfigSyntax}
use Rattle.server_config.specs.declared.lexeme.ConfigSyntax.TheVariants.{Named, Nsd}
use Rattle.server_config.specs.declared.lexeme.Lexeme.{Lexeme}
use Rattle.server_config.specs.declared.lexeme.LexemeKind.{LexemeKind}
use Rattle.server_config.specs.declared.lexeme.LexemeKind.TheVariants.{Gap, Token}
use Rattle.server_config.specs.declared.token.ConfigToken.{ConfigToken}
use Rattle.server_config.specs.declared.token.TokenKind.TheVariants.{Word}

-- an empty word at the beginning of a text
abbrev pub no_token : ConfigToken
no_token = record { kind = Word; at = 0; end = 0 }

-- the octets of a token, if its offsets are in the text
abbrev pub config_token_text : List ℕ → ConfigToken → List ℕ
config_token_text text t = if nat_le t.at t.end && nat_le t.end (length text) then take (t.end - t.at) (drop t.at text) else []

-- a token at an offset; or after a gap, the next
abbrev pub token_or_next : ℕ → LexemeKind → ℕ → (ℕ → Result (Option ConfigToken) ConfigError) → Result (Option ConfigToken) ConfigError
token_or_next at Gap len next = next len
token_or_next at (Token kind) len next = Ok (Some (record { kind = kind; at = at; end = at + len }))

abbrev pub token_by : ℕ → Result Lexeme ConfigErrorKind → (ℕ → Result (Option ConfigToken) ConfigError) → Result (Option ConfigToken) ConfigError
token_by at (Err kind) next = Err (error_between at (at + 1) kind)
token_by at (Ok l) next = token_or_next at l.kind l.len next

-- the first token of a text that begins at an offset, among at most a number of lexemes
abbrev pub token_among : ConfigSyntax → ℕ → ℕ → List ℕ → Result (Option ConfigToken) ConfigError
token_among syntax zero at text = Ok None
token_among syntax (suc most) at [] = Ok None
token_among syntax (suc most) at (c ∷ text) = token_by at (lexeme_in syntax (c ∷ text)) (λ n. token_among syntax most (at + n) (drop n (c ∷ text)))

-- the first token at an offset or after it
abbrev pub token_in : ConfigSyntax → List ℕ → ℕ → Result (Option ConfigToken) ConfigError
token_in syntax text from = token_among syntax (length text) from (drop from text)

-- of a named.conf, and of an nsd.conf
abbrev pub next_token : List ℕ → ℕ → Result (Option ConfigToken) ConfigError
next_token text from = token_in Named text from

abbrev pub next_nsd_token : List ℕ → ℕ → Result (Option ConfigToken) ConfigError
next_nsd_token text from = token_in Nsd text from

abbrev pub with_config_token : ConfigToken → Result (List ConfigToken) ConfigError → Result (List ConfigToken) ConfigError
with_config_token t (Err e) = Err e
with_config_token t (Ok ts) = Ok (t ∷ ts)

abbrev pub tokens_by : Result (Option ConfigToken) ConfigError → (ConfigToken → Result (List ConfigToken) ConfigError) → Result (List ConfigToken) ConfigError
tokens_by (Err e) others = Err e
tokens_by (Ok None) others = Ok []
tokens_by (Ok (Some t)) others = with_config_token t (others t)

-- at most a number of tokens, each after the one before it
abbrev pub tokens_among : ℕ → List ℕ → ℕ → Result (List ConfigToken) ConfigError
tokens_among zero text from = Ok []
tokens_among (suc most) text from = tokens_by (next_token text from) (λ t. tokens_among most text t.end)

-- the tokens of a named.conf, or the first error
abbrev pub config_tokens : List ℕ → Result (List ConfigToken) ConfigError
config_tokens text = tokens_among (length text) text 0
