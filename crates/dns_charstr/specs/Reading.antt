-- Parsing a character string from its text.
use Rattle.std.specs.Prelude.{◌≡◌, ℕ, ◌<◌, ◌≤◌, List, ◌∷◌, ◌++◌, length, map, Option, Some, None, Result, Ok, Err}
use Rattle.dns_octets.specs.Room.{Room}
use Rattle.dns_symbol.specs.Symbol.{octet_of}
use Rattle.dns_symbol.specs.Text.{SymbolsOf}
use Rattle.dns_symbol.specs.declared.symbol.Symbol.{Symbol}
use Rattle.dns_symbol.specs.declared.error.SymbolCharsError.{SymbolCharsError}
use Rattle.dns_charstr.specs.declared.charstr.error.PresentationError.TheVariants.{LongString, SymbolChars, BadSymbol}
use Rattle.dns_charstr.specs.declared.charstr.error.FromStrError.{FromStrError}
use Rattle.dns_charstr.specs.declared.charstr.error.FromStrError.TheVariants.{Presentation, ShortBuf}
use Rattle.dns_charstr.specs.Limits.{max_string}

-- the text is all symbols, and these are their octets
pub record HasOctets (text octets : List ℕ) : Type 0 where
  pub symbols : List Symbol
  pub read : SymbolsOf text symbols None
  pub octets_are : map octet_of symbols ≡ map Ok octets

-- the text's symbols have these octets, and then its error comes
pub record BreaksOff (text octets : List ℕ) (error : SymbolCharsError) : Type 0 where
  pub symbols : List Symbol
  pub read : SymbolsOf text symbols (Some error)
  pub octets_are : map octet_of symbols ≡ map Ok octets

-- the text's first symbols have these octets, and the symbol x is the next one
pub record NextSymbolIs (text octets : List ℕ) (x : Symbol) : Type 0 where
  pub front : List Symbol
  pub octets_are : map octet_of front ≡ map Ok octets
  pub others : List Symbol
  pub error : Option SymbolCharsError
  pub read : SymbolsOf text (front ++ x ∷ others) error

-- the result of parsing a text with a builder of that room: its octets, or the first error, with the octets before it
abbrev pub ReadsText : Room → List ℕ → Result (List ℕ) FromStrError → Type 0
ReadsText room text (Ok octets) = HasOctets text octets × (length octets ≤ max_string) × (length octets ≤ room.capacity)
ReadsText room text (Err (Presentation (SymbolChars e))) =
    (octets : List ℕ) × BreaksOff text octets e × (length octets ≤ max_string) × (length octets ≤ room.capacity)
ReadsText room text (Err (Presentation LongString)) =
    (octets : List ℕ) × (x : Symbol) × NextSymbolIs text octets x × (length octets ≡ max_string) × (length octets ≤ room.capacity)
ReadsText room text (Err (Presentation (BadSymbol e))) =
    (octets : List ℕ) × (x : Symbol) × NextSymbolIs text octets x × (length octets < max_string) × (length octets ≤ room.capacity) × (octet_of x ≡ Err e)
ReadsText room text (Err ShortBuf) =
    (octets : List ℕ) × (x : Symbol) × (octet : ℕ) × NextSymbolIs text octets x × (length octets < max_string) × (length octets ≤ room.capacity) × (octet_of x ≡ Ok octet)
    × (room.fits ≤ length octets)
