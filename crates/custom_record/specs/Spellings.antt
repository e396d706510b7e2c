-- The tokens that parse as the values of a record's fields.
use Rattle.std.specs.Prelude.{ℕ, List, [], ◌∷◌, ◌++◌, ◌≡◌, ◌≢◌, ◌⊎◌, ◌≤◌, length, Option, None, Result, IfOk}
use Rattle.std.specs.List.{concat}
use Rattle.dns_symbol.specs.declared.symbol.Symbol.{Symbol}
use Rattle.dns_symbol.specs.Text.{SymbolsOf}
use Rattle.dns_codec.specs.Base.{base16, base64}
use Rattle.dns_charstr.specs.Limits.{max_string}
use Rattle.dns_charstr.specs.Reading.{HasOctets}
use Rattle.dns_scan.specs.Numbers.{IsNumber, greatest}
use Rattle.dns_scan.specs.Unread.{HasTokens, OfTokens}
use Rattle.dns_scan.specs.Tokens.{Token}
use Rattle.dns_name.specs.Reading.{ReadsAs}
use Rattle.dns_name.specs.declared.name.UncertainName.TheVariants.{Absolute, Relative}
use Rattle.dns_codec.specs.Grammar.{IsEncodingOf}
use Rattle.custom_record.specs.Values.{Value, number8, number16, number32, name, hex, base64_octets, string, listed, long_text}

-- the token is plain digits of that number, which has at most these bits; no digit is 0
abbrev pub IsDecimalOf : ℕ → ℕ → Token → Type 0
IsDecimalOf bits n token = (symbols : List Symbol) × SymbolsOf token symbols None × IsNumber (greatest bits) symbols n

-- the token is a name of these labels, with the final dot; or without it, if the root comes after the name's own labels
abbrev pub IsNameOf : List (List ℕ) → Token → Type 0
IsNameOf labels token =
    ReadsAs {O = ℕ} token (Absolute labels)
    ⊎ ((front : List (List ℕ)) × ReadsAs {O = ℕ} token (Relative front) × (front ≢ []) × (labels ≡ front ++ [] ∷ []))

-- the token is a character string of these octets
abbrev pub IsStringOf : List ℕ → Token → Type 0
IsStringOf octets token = HasOctets token octets × (length octets ≤ max_string)

-- there is one token, which satisfies a predicate
abbrev pub IsOneToken : (Token → Type 0) → List Token → Type 0
IsOneToken P tokens = (t : Token) × (tokens ≡ t ∷ []) × P t

-- the tokens spell the value: one token, or any number whose texts joined are a text of the encoding
abbrev pub IsSpellingOf : Value → List Token → Type 0
IsSpellingOf (number8 n) tokens = IsOneToken (IsDecimalOf 8 n) tokens
IsSpellingOf (number16 n) tokens = IsOneToken (IsDecimalOf 16 n) tokens
IsSpellingOf (number32 n) tokens = IsOneToken (IsDecimalOf 32 n) tokens
IsSpellingOf (name labels) tokens = IsOneToken (IsNameOf labels) tokens
IsSpellingOf (hex octets) tokens = IsEncodingOf base16 (concat tokens) octets
IsSpellingOf (base64_octets octets) tokens = IsEncodingOf base64 (concat tokens) octets
IsSpellingOf (string octets) tokens = IsOneToken (IsStringOf octets) tokens
IsSpellingOf (listed octets) tokens = IsOneToken (IsStringOf octets) tokens
IsSpellingOf (long_text octets) tokens = IsOneToken (λ t. HasOctets t octets) tokens

-- spellings of the values in turn, and then others
abbrev pub AreSpellingsOf : List Value → List Token → List Token → Type 0
AreSpellingsOf [] tokens others = tokens ≡ others
AreSpellingsOf (v ∷ vs) tokens others = (own : List Token) × (more : List Token) × (tokens ≡ own ++ more) × IsSpellingOf v own × AreSpellingsOf vs more others

-- a call that succeeded consumed spellings of its value's fields, and the tokens after them remain
abbrev pub ConsumesSpellings : {S T E : Type 0} → (S → Option Token → S → Type 0) → (T → List Value) → List Token → Result T E → S → Type 0
ConsumesSpellings next values tokens r new = IfOk r (λ y. (others : List Token) × AreSpellingsOf (values y) tokens others × HasTokens next new others)

-- the same, of the tokens before which the call was made
abbrev pub ConsumesOnlySpellings : {S T E : Type 0} → (S → Option Token → S → Type 0) → (T → List Value) → S → Result T E → S → Type 0
ConsumesOnlySpellings next values old r new = OfTokens next old (λ tokens. ConsumesSpellings next values tokens r new)
