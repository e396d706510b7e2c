-- The result of a call that builds octets of the symbols of a token.
use Rattle.std.specs.Prelude.{ℕ, List, [], ◌∷◌, ◌++◌, ◌+◌, ◌≡◌, ◌<◌, ◌≤◌, length, map, Option, Some, None, Result, Ok, MatchResult}
use Rattle.std.specs.List.{concat}
use Rattle.dns_octets.specs.Room.{Room}
use Rattle.dns_symbol.specs.declared.symbol.Symbol.{Symbol}
use Rattle.dns_symbol.specs.declared.error.SymbolCharsError.{SymbolCharsError}
use Rattle.dns_symbol.specs.Symbol.{chars_error_text}
use Rattle.dns_symbol.specs.Cause.{Cause, custom_text, short_buf}

-- the octets of each symbol, with a builder of that room
module _ (given : Symbol → Result (List ℕ) (List ℕ)) (room : Room) where
  -- the error after `count` octets: of a symbol without octets or whose octets don't fit, or of what follows the symbols
  abbrev pub IsSymbolFault : ℕ → List Symbol → Option SymbolCharsError → Cause → Type 0
  IsSymbolFault count [] None c = ⊥
  IsSymbolFault count [] (Some e) c = c ≡ custom_text (chars_error_text e)
  IsSymbolFault count (x ∷ xs) error c = MatchResult (given x) (λ o. (room.fits < count + length o) × (c ≡ short_buf)) (λ text. c ≡ custom_text text)

  -- the first error of a token: the symbols before it have octets, and those fit
  pub record FirstFault (symbols : List Symbol) (error : Option SymbolCharsError) (c : Cause) : Type 0 where
    pub front : List Symbol
    pub rest : List Symbol
    pub parts : List (List ℕ)
    pub whole : symbols ≡ front ++ rest
    pub gives : map given front ≡ map Ok parts
    pub fits : length (concat parts) ≤ room.capacity
    pub fault : IsSymbolFault (length (concat parts)) rest error c

  -- the octets of all symbols joined: nothing else is in the token, and they fit
  pub record AllOctetsFit (symbols : List Symbol) (error : Option SymbolCharsError) (octets : List ℕ) : Type 0 where
    pub parts : List (List ℕ)
    pub gives : map given symbols ≡ map Ok parts
    pub joined : octets ≡ concat parts
    pub ends : error ≡ None
    pub fits : length octets ≤ room.capacity

  -- the answer: all octets, or the first error
  abbrev pub AnswersOctets : {O E : Type 0} → (E → Cause) → (O → List ℕ) → List Symbol → Option SymbolCharsError → Result O E → Type 0
  AnswersOctets cause value symbols error r = MatchResult r (λ x. AllOctetsFit symbols error (value x)) (λ e. FirstFault symbols error (cause e))
