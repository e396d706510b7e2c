-- Tokens of octets, and the results of parsing them.
use Rattle.std.specs.Prelude.{ℕ, List, ◌≡◌, ◌<◌, ◌≤◌, ◌⊎◌, All, Option, None, Ok, Result, IfOk, IsOkAnd, encode_utf8_all, length, map}
use Rattle.dns_octets.specs.Room.{Room}
use Rattle.dns_symbol.specs.declared.symbol.Symbol.{Symbol as PlainSymbol}
use Rattle.dns_symbol.specs.declared.error.SymbolCharsError.{SymbolCharsError}
use Rattle.dns_symbol.specs.Printed.{text_of, is_quoted_escape, is_unquoted_escape}
use Rattle.dns_symbol.specs.Cause.{Cause, short_buf, IsCause}
use Rattle.dns_symbol.specs.Symbol.{octet_of}
use Rattle.dns_symbol.specs.Text.{SymbolsOf}
use Rattle.dns_charstr.specs.Limits.{max_string}
use Rattle.dns_charstr.specs.Reading.{HasOctets}
use Rattle.dns_scan.specs.Answers.{AnswersOctets}
use Rattle.dns_scan.specs.Steps.{step_octet}
use Rattle.dns_scan.specs.Tokens.{Token}

-- the token that octets print as in the unquoted form
abbrev pub unquoted_token : List ℕ → Token
unquoted_token octets = encode_utf8_all (text_of is_unquoted_escape octets)

-- the text between the double quotes of their quoted form
abbrev pub quoted_token : List ℕ → Token
quoted_token octets = encode_utf8_all (text_of is_quoted_escape octets)

-- the token is the printed text of a character string, in one of these forms
abbrev pub IsPrinted : Token → List ℕ → Type 0
IsPrinted token octets = (token ≡ unquoted_token octets) ⊎ (token ≡ quoted_token octets)

-- the result is these octets, or "short buffer" if they exceed the guaranteed capacity
abbrev pub ReturnsWhere : {O E : Type 0} → (E → Cause) → (O → List ℕ) → Room → List ℕ → Result O E → Type 0
ReturnsWhere cause value room octets r = IsOkAnd r (λ x. value x ≡ octets) ⊎ (IsCause cause r short_buf × (room.fits < length octets))

-- r is the result of parsing a token that is a character string: its octets, if they fit
pub record StringBack {E : Type 0} (cause : E → Cause) (room : Room) (token : Token) (r : Result (List ℕ) E) : Type 0 where
  -- of any token that has octets
  pub whole : (octets : List ℕ) → HasOctets token octets → ReturnsWhere cause (λ s. s) room octets r
  -- of a printed text
  pub printed : (octets : List ℕ) → All (λ o. o < 256) octets → IsPrinted token octets → ReturnsWhere cause (λ s. s) room octets r
  -- and else its first error
  pub answer : (symbols : List PlainSymbol) (error : Option SymbolCharsError) → SymbolsOf token symbols error
      → AnswersOctets step_octet room cause (λ s. s) symbols error r
  -- no other token is accepted
  pub only : (symbols : List PlainSymbol) (error : Option SymbolCharsError) → SymbolsOf token symbols error
      → IfOk r (λ s. (error ≡ None) × (map octet_of symbols ≡ map Ok s) × (length symbols ≤ max_string))
