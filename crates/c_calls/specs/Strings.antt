-- The results of parsing and printing a character string.
use Rattle.std.specs.Prelude.{◌≡◌, ℕ, ◌<◌, ◌≤◌, ◌⊎◌, Bool, true, List, [], ◌++◌, length, map, drop, Some, Result, Ok, Err, Option, IfSome}
use Rattle.std.specs.List.{flat_map, list_all}
use Rattle.arrayvec.specs.ArrayVec.{ArrayVec}
use Rattle.dns_symbol.specs.Symbol.{bytes, is_readable, octet_of}
use Rattle.dns_symbol.specs.Index.{ReadsAt}
use Rattle.dns_symbol.specs.Printed.{is_plain_escape, is_quoted_escape, is_unquoted_escape, text_of}
use Rattle.dns_symbol.specs.declared.symbol.Symbol.{Symbol}
use Rattle.dns_symbol.specs.declared.error.BadSymbol.{BadSymbol as WhyNone}
use Rattle.dns_symbol.specs.declared.error.SymbolCharsError.{SymbolCharsError}
use Rattle.dns_symbol.specs.declared.error.SymbolCharsError.TheVariants.{BadEscape as BadOne, ShortInput as ShortOne}
use Rattle.dns_symbol.specs.declared.error.SymbolOctetsError.{SymbolOctetsError}
use Rattle.dns_symbol.specs.declared.error.SymbolOctetsError.TheVariants.{BadUtf8 as NoUtf8, BadEscape as NoEscape, ShortInput as CutShort}
use Rattle.dns_charstr.specs.Printed.{quoted_text}
use Rattle.dns_charstr.specs.OctetText.{SpellsOctet, SpellsOctets, SpellsNone, OctetAt}
use Rattle.dns_charstr.specs.Reading.{HasOctets}
use Rattle.c_calls.specs.Reports.{CopiesWhole, ReportsFault, IsReported}
use Rattle.c_calls.specs.declared.outcome.Outcome.{Outcome}
use Rattle.c_calls.specs.declared.outcome.Fault.{Fault}
use Rattle.c_calls.specs.declared.outcome.Refusal.{Refusal}
use Rattle.c_calls.specs.declared.outcome.Refusal.TheVariants.{NoRoom, BadEscape, ShortInput, BadUtf8, BadSymbol, TooLong}
use Rattle.c_calls.specs.declared.strings.Form.{Form}
use Rattle.c_calls.specs.declared.strings.Form.TheVariants.{Plain, Quoted, Unquoted}

-- the octets that each form escapes simply, and its text of a character string
abbrev pub escape_of : Form → ℕ → Bool
escape_of Plain = is_plain_escape
escape_of Quoted = is_quoted_escape
escape_of Unquoted = is_unquoted_escape

abbrev pub plain_text : List ℕ → List ℕ
plain_text octets = text_of is_plain_escape octets

abbrev pub unquoted_text : List ℕ → List ℕ
unquoted_text octets = text_of is_unquoted_escape octets

abbrev pub string_text : Form → List ℕ → List ℕ
string_text Plain octets = plain_text octets
string_text Quoted octets = quoted_text octets
string_text Unquoted octets = unquoted_text octets

-- at most 255 octets are returned as their text, one octet a character; the 256th is rejected
pub record PrintsString (text_is : List ℕ → List ℕ) (octets old : List ℕ) (status : ℕ) (new : List ℕ) (outcome : Outcome) : Type 0 where
  pub short : length octets ≤ 255 → CopiesWhole (text_is octets) old status new outcome
  pub long : 255 < length octets → ReportsFault (record { refusal = TooLong; place = 255 }) status outcome × (new ≡ old)

-- the status if no symbol is there
abbrev pub refusal_of : SymbolOctetsError → Refusal
refusal_of NoUtf8 = BadUtf8
refusal_of NoEscape = BadEscape
refusal_of CutShort = ShortInput

-- no symbol is at an offset, and the error has the reason
abbrev pub RefusesSymbol : List ℕ → ℕ → Fault → Type 0
RefusesSymbol text place fault = (e : SymbolOctetsError) × ReadsAt text place (Err e) × (fault ≡ record { refusal = refusal_of e; place = place })

-- what is found at an offset ends at a later offset of the text
abbrev pub PassesSome : {X : Type 0} → List ℕ → ℕ → Option (X × ℕ) → Type 0
PassesSome text place found = IfSome found (λ p. (place < p.1) × (p.1 ≤ length text))

-- the text begins with symbols that have these octets and end at an offset
pub record HasOctetsBefore (text octets : List ℕ) (place : ℕ) : Type 0 where
  pub symbols : List Symbol
  pub readable : list_all is_readable symbols ≡ true
  pub octets_are : map octet_of symbols ≡ map Ok octets
  pub spelled : text ≡ flat_map bytes symbols ++ drop place text
  pub place_is : place ≡ length (flat_map bytes symbols)

-- why parsing stops after these octets: no symbol follows, or one too many, or one that has no octet
abbrev pub StopsReading : List ℕ → List ℕ → ℕ → Refusal → Type 0
StopsReading text octets place NoRoom = ⊥
StopsReading text octets place TooLong = (p : Symbol × ℕ) × ReadsAt text place (Ok (Some p)) × (length octets ≡ 255)
StopsReading text octets place BadSymbol = (p : Symbol × ℕ) × (e : WhyNone) × ReadsAt text place (Ok (Some p)) × (length octets < 255) × (octet_of p.0 ≡ Err e)
StopsReading text octets place other = (e : SymbolOctetsError) × ReadsAt text place (Err e) × (length octets ≤ 255) × (other ≡ refusal_of e)

-- the result of parsing a text: the octets of all its symbols, or the first error
abbrev pub ReadsString : List ℕ → Result (List ℕ) Fault → Type 0
ReadsString text (Ok octets) = HasOctets text octets × (length octets ≤ 255)
ReadsString text (Err fault) = (octets : List ℕ) × HasOctetsBefore text octets fault.place × StopsReading text octets fault.place fault.refusal

-- the status if no octet is spelled
abbrev pub refusal_of_escape : SymbolCharsError → Refusal
refusal_of_escape BadOne = BadEscape
refusal_of_escape ShortOne = ShortInput

-- no octet is spelled at an offset, and the error has the reason
abbrev pub RefusesOctet : List ℕ → ℕ → Fault → Type 0
RefusesOctet text place fault = (e : SymbolCharsError) × OctetAt text place (Err e) × (fault ≡ record { refusal = refusal_of_escape e; place = place })

-- why parsing octets stops before the end: 255 octets have been parsed and another one is spelled, or none is
abbrev pub StopsOctets : List ℕ → List ℕ → Refusal → Type 0
StopsOctets octets rest refusal =
    ((next : ℕ) × (after : List ℕ) × SpellsOctet rest next after × (length octets ≡ 255) × (refusal ≡ TooLong))
    ⊎ ((e : SymbolCharsError) × SpellsNone rest e × (length octets ≤ 255) × (refusal ≡ refusal_of_escape e))

-- the result of parsing a text of octets: the octets that it spells, or the first error, with the octets before it
abbrev pub ReadsOctetString : List ℕ → Result (List ℕ) Fault → Type 0
ReadsOctetString text (Ok octets) = SpellsOctets text octets [] × (length octets ≤ 255)
ReadsOctetString text (Err fault) =
    (octets : List ℕ) × SpellsOctets text octets (drop fault.place text) × (fault.place ≤ length text) × StopsOctets octets (drop fault.place text) fault.refusal

-- the octets that were read
abbrev pub string_octets : Result (ArrayVec ℕ) Fault → Result (List ℕ) Fault
string_octets (Ok octets) = Ok octets.items
string_octets (Err fault) = Err fault

-- a text is read, and the result is reported
abbrev pub ReportsString : List ℕ → List ℕ → ℕ → List ℕ → Outcome → Type 0
ReportsString text old status new outcome = (answer : Result (List ℕ) Fault) × ReadsString text answer × IsReported answer old status new outcome

abbrev pub ReportsOctetString : List ℕ → List ℕ → ℕ → List ℕ → Outcome → Type 0
ReportsOctetString text old status new outcome = (answer : Result (List ℕ) Fault) × ReadsOctetString text answer × IsReported answer old status new outcome
