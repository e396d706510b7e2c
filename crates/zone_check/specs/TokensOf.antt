-- The tokens of an entry.
use Rattle.std.specs.Prelude.{ℕ, ◌≡◌, ◌==◌, ◌||◌, ⊤, Bool, false, List, [], ◌∷◌, ◌++◌, Result, Ok, Err}
use Rattle.dns_symbol.specs.Characters.{space, tab}
use Rattle.dns_lexer.specs.EntryTokens.{EndIs, IsSeen, PartSeen, TokenIs, tokens_seen}
use Rattle.dns_lexer.specs.declared.entry_tokens.EntryToken.{EntryToken}
use Rattle.dns_lexer.specs.declared.pieces.Fault.{Fault}

-- the first octet is a blank or a tab
abbrev pub begins_with_blank : List ℕ → Bool
begins_with_blank [] = false
begins_with_blank (c ∷ octets) = c == space || c == tab

-- no token is next: an entry ends, or a syntax error cuts the octets off, or nothing is left
abbrev pub EndsTokens : List (Result PartSeen Fault) → Type 0
EndsTokens [] = ⊤
EndsTokens (Ok (TokenIs t blank) ∷ seen) = ⊥
EndsTokens (Ok (EndIs e) ∷ seen) = ⊤
EndsTokens (Err f ∷ seen) = ⊤

-- all tokens of octets up to the entry's end or a syntax error
abbrev pub AreTokensOf : List ℕ → List EntryToken → Type 0
AreTokensOf octets tokens =
    (seen : List (Result PartSeen Fault)) × IsSeen octets seen × (blank : Bool) × (rest : List (Result PartSeen Fault)) × (seen ≡ tokens_seen blank tokens ++ rest) × EndsTokens rest
