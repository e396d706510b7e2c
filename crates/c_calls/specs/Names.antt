-- The results of parsing and printing a name.
use Rattle.std.specs.Prelude.{◌≡◌, ◌≢◌, ℕ, ◌<◌, ◌≤◌, Bool, false, List, [], ◌∷◌, ◌++◌, length, drop, Some, Result, Ok, Err, encode_utf8_all}
use Rattle.std.specs.Borrow.{Bor}
use Rattle.arrayvec.specs.ArrayVec.{ArrayVec}
use Rattle.dns_symbol.specs.Symbol.{octet_of}
use Rattle.dns_symbol.specs.Index.{ReadsAt}
use Rattle.dns_symbol.specs.declared.symbol.Symbol.{Symbol}
use Rattle.dns_symbol.specs.declared.error.BadSymbol.{BadSymbol as WhyNone}
use Rattle.dns_symbol.specs.declared.error.SymbolOctetsError.{SymbolOctetsError}
use Rattle.dns_wire.specs.Building.{Naming, all_labels, closed, with_octet}
use Rattle.dns_wire.specs.Form.{name_text}
use Rattle.dns_wire.specs.Printed.{dotted_text, undotted_text}
use Rattle.dns_wire.specs.Wire.{wire, wire_length}
use Rattle.dns_name.specs.Reading.{HasNamed, ReadsAs, bracket, is_dot}
use Rattle.dns_name.specs.ReadingSteps.{SymbolHasOctet}
use Rattle.dns_name.specs.Uncertain.{labels_of, is_absolute, MakesUncertain}
use Rattle.dns_name.specs.declared.name.UncertainName.{UncertainName}
use Rattle.dns_name.specs.declared.name.UncertainName.TheVariants.{Absolute, Relative}
use Rattle.dns_name.specs.declared.name.error.UncertainDnameError.{UncertainDnameError}
use Rattle.dns_name.specs.declared.name.error.UncertainDnameError.TheVariants.{BadLabel as NoType, CompressedName, LongName, TrailingData, ShortInput as CutShort}
use Rattle.c_calls.specs.Entries.{bit}
use Rattle.c_calls.specs.Strings.{refusal_of}
use Rattle.c_calls.specs.Reports.{CopiesWhole, ReportsFault, at_start}
use Rattle.dns_wire.specs.declared.display.Form.{Form}
use Rattle.c_calls.specs.declared.outcome.Outcome.{Outcome}
use Rattle.c_calls.specs.declared.outcome.Fault.{Fault}
use Rattle.c_calls.specs.declared.outcome.Refusal.{Refusal}
use Rattle.c_calls.specs.declared.outcome.Refusal.TheVariants.{ShortInput, BadSymbol, TooLong, EmptyLabel, LongLabel, BinaryLabel, BadLabel, Pointer, TrailingOctets}

-- the result of a symbol other than a plain dot, and the builder after it
abbrev pub AppendsNameSymbol : Naming → Symbol → Result (Unit {0}) Refusal → Naming → Type 0
AppendsNameSymbol b x (Ok _) new =
    (octet : ℕ) × SymbolHasOctet b x octet × (new ≡ with_octet b octet) × (wire_length (all_labels (with_octet b octet)) ≤ 254) × (length b.current < 63)
AppendsNameSymbol b x (Err BinaryLabel) new = (b.current ≡ []) × (x ≡ bracket)
AppendsNameSymbol b x (Err BadSymbol) new = (e : WhyNone) × (octet_of x ≡ Err e)
AppendsNameSymbol b x (Err TooLong) new = (octet : ℕ) × SymbolHasOctet b x octet × (254 < wire_length (all_labels (with_octet b octet)))
AppendsNameSymbol b x (Err LongLabel) new =
    (octet : ℕ) × SymbolHasOctet b x octet × (wire_length (all_labels (with_octet b octet)) ≤ 254) × (63 ≤ length b.current)
AppendsNameSymbol b x (Err other) new = ⊥

-- the next symbol is not a plain dot and adds an octet to the open label
abbrev pub NextAddsOctet : List ℕ → List (List ℕ) → List ℕ → ℕ → ℕ → Type 0
NextAddsOctet text labels current place octet =
    (p : Symbol × ℕ) × ReadsAt text place (Ok (Some p)) × (is_dot p.0 ≡ false) × (octet_of p.0 ≡ Ok octet) × (current ≡ [] → p.0 ≢ bracket)

-- why parsing stops after these labels and the open one: a plain dot follows no octet, and is not
-- the whole text; an escaped bracket comes first in a label; a symbol has no octet; the labels get
-- more than 254 octets, or one more than 63; or no symbol follows
abbrev pub NameStops : List ℕ → List (List ℕ) → List ℕ → ℕ → Refusal → Type 0
NameStops text labels current place EmptyLabel = (current ≡ []) × (rest : List ℕ) × (drop place text ≡ 46 ∷ rest) × (labels ≡ [] → rest ≢ [])
NameStops text labels current place BinaryLabel = (after : ℕ) × ReadsAt text place (Ok (Some (bracket, after))) × (current ≡ [])
NameStops text labels current place BadSymbol = (p : Symbol × ℕ) × (e : WhyNone) × ReadsAt text place (Ok (Some p)) × (octet_of p.0 ≡ Err e)
NameStops text labels current place TooLong =
    (octet : ℕ) × NextAddsOctet text labels current place octet × (254 < wire_length (labels ++ closed (current ++ octet ∷ [])))
NameStops text labels current place LongLabel =
    (octet : ℕ) × NextAddsOctet text labels current place octet × (wire_length (labels ++ closed (current ++ octet ∷ [])) ≤ 254) × (length current ≡ 63)
NameStops text labels current place other = (e : SymbolOctetsError) × ReadsAt text place (Err e) × (other ≡ refusal_of e)

-- a name, or an error with its offset
abbrev pub NameAnswer : Type 0
NameAnswer = Result (UncertainName (ArrayVec ℕ)) Fault

-- the name of the labels that were parsed: a plain dot at the end makes it absolute
pub record FinishesName (b : Naming) (name : UncertainName (ArrayVec ℕ)) : Type 0 where
  pub relative : (b.current ≡ [] → b.labels ≡ []) → name ≡ Relative (all_labels b)
  pub absolute : b.current ≡ [] → b.labels ≢ [] → name ≡ Absolute (all_labels b ++ [] ∷ [])

-- the result of parsing a name's text: its name; or the first error, with the labels before it
abbrev pub ReadsNameText : List ℕ → NameAnswer → Type 0
ReadsNameText text (Ok name) = ReadsAs text name
ReadsNameText text (Err fault) =
    (labels : List (List ℕ)) × (current : List ℕ) × HasNamed text labels current (drop fault.place text) × (fault.place ≤ length text)
    × NameStops text labels current fault.place fault.refusal

-- the wire octets of the name are returned, and whether it is absolute; or the error is reported, and nothing was written
abbrev pub ReportsName : NameAnswer → List ℕ → ℕ → ℕ → List ℕ → ℕ → Outcome → Type 0
ReportsName (Ok name) old was status new is outcome = CopiesWhole (wire (labels_of name)) old status new outcome × (is ≡ bit (is_absolute name))
ReportsName (Err fault) old was status new is outcome = ReportsFault fault status outcome × (new ≡ old) × (is ≡ was)

-- the bytes of the text of labels
abbrev pub labels_text : Form → Bool → List (List ℕ) → List ℕ
labels_text form dot labels = encode_utf8_all (name_text form dot labels)

abbrev pub undotted_octets : List (List ℕ) → List ℕ
undotted_octets labels = encode_utf8_all (undotted_text labels)

abbrev pub dotted_octets : List (List ℕ) → List ℕ
dotted_octets labels = encode_utf8_all (dotted_text labels)

-- the status of octets that are not a name
abbrev pub refusal_of_octets : UncertainDnameError → Refusal
refusal_of_octets (NoType e) = BadLabel
refusal_of_octets CompressedName = Pointer
refusal_of_octets LongName = TooLong
refusal_of_octets TrailingData = TrailingOctets
refusal_of_octets CutShort = ShortInput

-- the text of the name is returned; or the error is reported with offset 0, and nothing was written
abbrev pub ReportsNameText : (List (List ℕ) → List ℕ) → Result (UncertainName (Bor (List ℕ))) UncertainDnameError → List ℕ → ℕ → List ℕ → Outcome → Type 0
ReportsNameText text_is (Ok name) old status new outcome = CopiesWhole (text_is (labels_of name)) old status new outcome
ReportsNameText text_is (Err e) old status new outcome = ReportsFault (at_start (refusal_of_octets e)) status outcome × (new ≡ old)

-- the result of printing the name of some octets
abbrev pub PrintsNameOf : (List (List ℕ) → List ℕ) → List ℕ → List ℕ → ℕ → List ℕ → Outcome → Type 0
PrintsNameOf text_is octets old status new outcome =
    (made : Result (UncertainName (Bor (List ℕ))) UncertainDnameError) × MakesUncertain octets made × ReportsNameText text_is made old status new outcome

-- no octets are the relative name of no labels, and others are a name or rejected
pub record PrintsName (text_is : List (List ℕ) → List ℕ) (octets old : List ℕ) (status : ℕ) (new : List ℕ) (outcome : Outcome) : Type 0 where
  pub none : octets ≡ [] → CopiesWhole (text_is []) old status new outcome
  pub some : octets ≢ [] → PrintsNameOf text_is octets old status new outcome
