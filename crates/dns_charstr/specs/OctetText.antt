-- Texts in which every octet but the backslash denotes itself (RFC 1035 section 5.1).
use Rattle.std.specs.Prelude.{◌≡◌, ℕ, ◌<◌, ◌≤◌, true, List, [], ◌∷◌, ◌++◌, length, drop, Option, Some, None, Result, Ok, Err}
use Rattle.dns_octets.specs.Room.{Room}
use Rattle.dns_symbol.specs.Escape.{is_spelling, octet_for}
use Rattle.dns_symbol.specs.Symbol.{spell}
use Rattle.dns_symbol.specs.Text.{chars_error}
use Rattle.dns_symbol.specs.declared.symbol.Symbol.{Symbol}
use Rattle.dns_symbol.specs.declared.error.SymbolCharsError.{SymbolCharsError}
use Rattle.dns_charstr.specs.declared.charstr.error.PresentationError.TheVariants.{LongString, SymbolChars, BadSymbol}
use Rattle.dns_charstr.specs.declared.charstr.error.FromStrError.{FromStrError}
use Rattle.dns_charstr.specs.declared.charstr.error.FromStrError.TheVariants.{Presentation, ShortBuf}
use Rattle.dns_charstr.specs.Limits.{max_string}

-- the text spells the octet first, and then the rest
pub record SpellsOctet (text : List ℕ) (octet : ℕ) (rest : List ℕ) : Type 0 where
  pub symbol : Symbol
  pub spelling : is_spelling symbol ≡ true
  pub whole : text ≡ spell symbol ++ rest
  pub stands_for : octet ≡ octet_for symbol

-- the text spells these octets one after another, and then the rest
abbrev pub SpellsOctets : List ℕ → List ℕ → List ℕ → Type 0
SpellsOctets text [] rest = text ≡ rest
SpellsOctets text (octet ∷ octets) rest = (more : List ℕ) × SpellsOctet text octet more × SpellsOctets more octets rest

-- a text that isn't empty and spells no octet first, and why: an escape is cut short, or is invalid
pub record SpellsNone (text : List ℕ) (error : SymbolCharsError) : Type 0 where
  pub some : 0 < length text
  pub none : (octet : ℕ) (rest : List ℕ) → SpellsOctet text octet rest → ⊥
  pub why : error ≡ chars_error text

-- the text spells these octets one after another, and then another one
pub record SpellsMore (text octets : List ℕ) : Type 0 where
  pub rest : List ℕ
  pub front : SpellsOctets text octets rest
  pub next : ℕ
  pub after : List ℕ
  pub goes_on : SpellsOctet rest next after

-- the text spells these octets one after another, and then none, for this reason
pub record SpellsUntil (text octets : List ℕ) (error : SymbolCharsError) : Type 0 where
  pub rest : List ℕ
  pub front : SpellsOctets text octets rest
  pub stops : SpellsNone rest error

-- the first octet of a text that is not empty and the length of its spelling, or the error
abbrev pub OctetFirst : List ℕ → Result (ℕ × ℕ) SymbolCharsError → Type 0
OctetFirst text (Ok p) = SpellsOctet text p.0 (drop p.1 text) × (p.1 ≤ length text)
OctetFirst text (Err e) = SpellsNone text e

-- the octet that is spelled at an offset, and the offset after it; none at or after the end; or the error
abbrev pub OctetAt : List ℕ → ℕ → Result (Option (ℕ × ℕ)) SymbolCharsError → Type 0
OctetAt text place (Ok None) = length text ≤ place
OctetAt text place (Ok (Some p)) = SpellsOctet (drop place text) p.0 (drop p.1 text) × (p.1 ≤ length text)
OctetAt text place (Err e) = SpellsNone (drop place text) e

-- the result of parsing a text with a builder of that room: its octets, or the first error, with the octets before it
abbrev pub ReadsOctetText : Room → List ℕ → Result (List ℕ) FromStrError → Type 0
ReadsOctetText room text (Ok octets) = SpellsOctets text octets [] × (length octets ≤ max_string) × (length octets ≤ room.capacity)
ReadsOctetText room text (Err (Presentation (SymbolChars e))) =
    (octets : List ℕ) × SpellsUntil text octets e × (length octets ≤ max_string) × (length octets ≤ room.capacity)
ReadsOctetText room text (Err (Presentation LongString)) =
    (octets : List ℕ) × SpellsMore text octets × (length octets ≡ max_string) × (length octets ≤ room.capacity)
ReadsOctetText room text (Err (Presentation (BadSymbol e))) = ⊥
ReadsOctetText room text (Err ShortBuf) =
    (octets : List ℕ) × SpellsMore text octets × (length octets < max_string) × (length octets ≤ room.capacity) × (room.fits ≤ length octets)
