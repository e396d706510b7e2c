-- The tokens of a directive in a text.
use Rattle.std.specs.Prelude.{⊤, ℕ, ◌≡◌, ◌⊎◌, ◌+◌, ◌-◌, ◌^◌, ◌==◌, ◌&&◌, ◌||◌, Bool, true, false, not, if◌then◌else◌, min, List, [], ◌∷◌, codes, length, take, Option, Some, None, Result, Ok, Err}
use Rattle.dns_symbol.specs.Characters.{backslash, close_parenthesis, double_quote, line_feed, open_parenthesis, semicolon}
use Rattle.dns_octets.specs.Lowered.{same_lowered}
use Rattle.dns_lexer.specs.declared.pieces.Fault.{Fault}
use Rattle.dns_lexer.specs.EntryTokens.{EndIs, IsSeen, PartSeen, TokenIs, TokenSeen, spelled}
use Rattle.zone_generate.specs.Directives.{error_at_token}
use Rattle.zone_generate.specs.declared.error.GenerateError.{GenerateError}
use Rattle.zone_generate.specs.declared.error.GenerateErrorKind.TheVariants.{NotGenerate, Parenthesis, Syntax}
use Rattle.zone_generate.specs.declared.tokens.TextMode.{TextMode}
use Rattle.zone_generate.specs.declared.tokens.TextMode.TheVariants.{Comment, Escaped, Plain, Quoted, QuotedEscaped}

-- where the octet after this one is
abbrev pub mode_after : TextMode → ℕ → TextMode
mode_after Plain c = if c == backslash then Escaped else (if c == double_quote then Quoted else (if c == semicolon then Comment else Plain))
mode_after Escaped c = Plain
mode_after Quoted c = if c == backslash then QuotedEscaped else (if c == double_quote then Plain else Quoted)
mode_after QuotedEscaped c = Quoted
mode_after Comment c = if c == line_feed then Plain else Comment

-- a parenthesis between tokens
abbrev pub is_parenthesis : TextMode → ℕ → Bool
is_parenthesis Plain c = (c == open_parenthesis) || (c == close_parenthesis)
is_parenthesis Escaped c = false
is_parenthesis Quoted c = false
is_parenthesis QuotedEscaped c = false
is_parenthesis Comment c = false

-- the offset of the first one of a text that begins at an offset
abbrev pub parenthesis_from : TextMode → ℕ → List ℕ → Option ℕ
parenthesis_from mode at [] = None
parenthesis_from mode at (c ∷ text) = if is_parenthesis mode c then Some at else parenthesis_from (mode_after mode c) (at + 1) text

-- the offset where a token ends, up to the greatest that there is
abbrev pub saturated_end : TokenSeen → ℕ
saturated_end t = min (t.at + length (spelled t)) (2 ^ 64 - 1)

-- and where the last one ends, or the offset before them
abbrev pub directive_end : ℕ → List TokenSeen → ℕ
directive_end end [] = end
directive_end end (t ∷ tokens) = directive_end (saturated_end t) tokens

-- the tokens of the first entry, and what comes after them
abbrev pub entry_tokens : List (Result PartSeen Fault) → List TokenSeen
entry_tokens (Ok (TokenIs t b) ∷ parts) = t ∷ entry_tokens parts
entry_tokens _ = []

abbrev pub after_tokens : List (Result PartSeen Fault) → List (Result PartSeen Fault)
after_tokens (Ok (TokenIs t b) ∷ parts) = after_tokens parts
after_tokens parts = parts

-- the end of an entry comes next, or nothing
abbrev pub EndsNext : List (Result PartSeen Fault) → Type 0
EndsNext [] = ⊤
EndsNext (Ok (EndIs e) ∷ parts) = ⊤
EndsNext (Ok (TokenIs t b) ∷ parts) = ⊥
EndsNext (Err f ∷ parts) = ⊥

-- the first eight tokens of the first entry, if no syntax error comes before its end
abbrev pub HasFirstTokens : List ℕ → List TokenSeen → Type 0
HasFirstTokens octets tokens = (seen : List (Result PartSeen Fault)) × IsSeen octets seen × (tokens ≡ take 8 (entry_tokens seen)) × EndsNext (after_tokens seen)

-- and that syntax error
abbrev pub HasFault : List ℕ → Fault → Type 0
HasFault octets f = (seen : List (Result PartSeen Fault)) × IsSeen octets seen × (after_tokens seen ≡ Err f ∷ [])

-- the first token is the word `$GENERATE`, at the offset 0
abbrev pub is_directive_word : List TokenSeen → Bool
is_directive_word [] = false
is_directive_word (t ∷ tokens) = not t.is_quoted && ((t.at == 0) && same_lowered t.text (codes "$GENERATE"))

-- why a text without parentheses has no directive: a syntax error, or its first token
abbrev pub WhyNoDirective : List ℕ → GenerateError → Type 0
WhyNoDirective octets e =
    ((f : Fault) × HasFault octets f × (e ≡ error_at_token f.at (Syntax f.wrong)))
    ⊎ ((tokens : List TokenSeen) × HasFirstTokens octets tokens × (is_directive_word tokens ≡ false) × (e ≡ error_at_token 0 NotGenerate))

-- the first error: a parenthesis, if there is one
abbrev pub IsFirstError : List ℕ → Option ℕ → GenerateError → Type 0
IsFirstError octets (Some at) e = e ≡ error_at_token at Parenthesis
IsFirstError octets None e = WhyNoDirective octets e

-- the tokens of a text without parentheses that begins with the word; or the first error
abbrev pub FindsDirective : List ℕ → Result (List TokenSeen) GenerateError → Type 0
FindsDirective octets (Ok tokens) = (parenthesis_from Plain 0 octets ≡ None) × HasFirstTokens octets tokens × (is_directive_word tokens ≡ true)
FindsDirective octets (Err e) = IsFirstError octets (parenthesis_from Plain 0 octets) e
