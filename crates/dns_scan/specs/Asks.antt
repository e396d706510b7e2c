-- The effect of a call over the symbols of a token.
use Rattle.std.specs.Prelude.{ℕ, List, [], ◌∷◌, ◌≡◌, Option, Some, None, Result, Ok, Err, IsErr, IsOkAnd, MatchOption, MatchResult, ◌⊎◌}
use Rattle.dns_symbol.specs.declared.symbol.Symbol.{Symbol}
use Rattle.dns_symbol.specs.declared.error.SymbolCharsError.{SymbolCharsError}
use Rattle.dns_symbol.specs.Symbol.{chars_error_text}
use Rattle.dns_symbol.specs.Text.{SymbolsOf}
use Rattle.dns_symbol.specs.Cause.{Cause, custom_text, end_of_entry, IsCause}
use Rattle.dns_scan.specs.Tokens.{Token}
use Rattle.dns_octets.specs.Room.{Room, within}
use Rattle.dns_charstr.specs.Limits.{max_string}
use Rattle.dns_scan.specs.Steps.{HasStepOctets, step_octet, step_text}

module _ {F X E : Type 0} (step : F → X → Result (Unit {0}) E → F → Type 0) where
  -- f was called for each of xs in order, until it failed with r; without an error r ends as Last states
  abbrev pub CallsEach : List X → (Result (Unit {0}) E → Type 0) → F → Result (Unit {0}) E → F → Type 0
  CallsEach [] Last f r g = (g ≡ f) × Last r
  CallsEach (x ∷ xs) Last f r g = ((m : F) × step f x (Ok tt) m × CallsEach xs Last m r g) ⊎ (IsErr r × step f x r g)

-- the end of a text after all its symbols: without an error, or with its error
abbrev pub EndsAfterSymbols : {E : Type 0} → (E → Cause) → Option SymbolCharsError → Result (Unit {0}) E → Type 0
EndsAfterSymbols cause None r = r ≡ Ok tt
EndsAfterSymbols cause (Some e) r = IsCause cause r (custom_text (chars_error_text e))

-- f was called for the symbols of a token in order: its first error, else the text's error, else Ok
pub record CallsEachSymbol {F E : Type 0} (cause : E → Cause) (step : F → Symbol → Result (Unit {0}) E → F → Type 0)
    (token : Token) (f : F) (r : Result (Unit {0}) E) (g : F) : Type 0 where
  pub symbols : List Symbol
  pub error : Option SymbolCharsError
  pub read : SymbolsOf token symbols error
  pub asked : CallsEach step symbols (EndsAfterSymbols cause error) f r g

-- a call that passed on the symbols of one token: the consumed token, and the calls; or the error if none was left, without a call
pub record ScansSymbols {S F E : Type 0} (next : S → Option Token → S → Type 0) (cause : E → Cause) (step : F → Symbol → Result (Unit {0}) E → F → Type 0)
    (old : S) (f : F) (r : Result (Unit {0}) E) (new : S) (g : F) : Type 0 where
  pub token : Option Token
  pub taken : next old token new
  pub answer : MatchOption token (IsCause cause r end_of_entry × (g ≡ f)) (λ t. CallsEachSymbol cause step t f r g)

-- the octets that were built of a token's symbols, if all were accepted; else the error
pub record Builds {O E : Type 0} (cause : E → Cause) (step : List ℕ → Symbol → Result (Unit {0}) E → List ℕ → Type 0) (octets : O → List ℕ)
    (token : Token) (r : Result O E) : Type 0 where
  pub answer : Result (Unit {0}) E
  pub built : List ℕ
  pub asks : CallsEachSymbol cause step token [] answer built
  pub gives : MatchResult answer (λ _. IsOkAnd r (λ x. octets x ≡ built)) (λ e. r ≡ Err e)

-- the octets of a token's symbols, in a builder with that room
abbrev pub BuildsOctets : {O E : Type 0} → (E → Cause) → Room → (O → List ℕ) → Token → Result O E → Type 0
BuildsOctets cause room = Builds cause (HasStepOctets cause room step_octet)

-- the same of a character string, which has at most 255
abbrev pub BuildsString : {E : Type 0} → (E → Cause) → Room → Token → Result (List ℕ) E → Type 0
BuildsString cause room = BuildsOctets cause (within max_string room) (λ s. s)

-- the characters of a token's symbols, in UTF-8
abbrev pub BuildsText : {E : Type 0} → (E → Cause) → Room → Token → Result (List ℕ) E → Type 0
BuildsText cause room = Builds cause (HasStepOctets cause room step_text) (λ s. s)
