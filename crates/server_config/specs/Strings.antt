-- The octets that a token means.
use Rattle.std.specs.Prelude.{ℕ, ◌-◌, ◌==◌, nat_le, if◌then◌else◌, List, [], ◌∷◌, ◌++◌, length, take, drop, Option, None, Some}
use Rattle.server_config.specs.Lexemes.{backslash_sign, quote_sign}
use Rattle.server_config.specs.Statements.{is_quoted_string}
use Rattle.server_config.specs.Tokens.{config_token_text}
use Rattle.server_config.specs.declared.token.ConfigToken.{ConfigToken}

-- a text without its first and its last octet
abbrev pub without_quotes : List ℕ → List ℕ
without_quotes text = if nat_le 2 (length text) then take (length text - 2) (drop 1 text) else text

-- a token without its quotes
abbrev pub token_content : List ℕ → ConfigToken → List ℕ
token_content text t = if is_quoted_string t.kind then without_quotes (config_token_text text t) else config_token_text text t

-- an octet after a backslash: a double quote stays alone, and any other with the backslash
abbrev pub escape_text : ℕ → ℕ → List ℕ
escape_text c d = if d == quote_sign then d ∷ [] else c ∷ d ∷ []

-- each `\"` is a double quote
abbrev pub unescaped : List ℕ → List ℕ
unescaped [] = []
unescaped (c ∷ []) = c ∷ []
unescaped (c ∷ d ∷ text) =
    if c == backslash_sign then escape_text c d ++ unescaped text else c ∷ unescaped (d ∷ text)

-- the octet after a backslash
abbrev pub octet_after_backslash : ℕ → List ℕ → Option ℕ
octet_after_backslash c [] = None
octet_after_backslash c (d ∷ text) = if c == backslash_sign then Some d else None

-- what a word or a quoted string of a named.conf means
abbrev pub named_string : List ℕ → ConfigToken → List ℕ
named_string text t = if is_quoted_string t.kind then unescaped (token_content text t) else config_token_text text t
