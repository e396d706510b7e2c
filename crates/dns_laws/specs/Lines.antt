-- The tokens of an entry line, and the values that they parse as.
use Rattle.std.specs.Prelude.{⊤, ◌≡◌, ◌<◌, ◌⊎◌, ℕ, List, [], ◌∷◌, ◌++◌, length, map, Result, Ok}
use Rattle.dns_octets.specs.Room.{Room}
use Rattle.dns_symbol.specs.Characters.{double_quote}
use Rattle.dns_lexer.specs.Splitting.{Entries}
use Rattle.dns_lexer.specs.Token.{IsWord}
use Rattle.dns_symbol.specs.Cause.{Cause, short_buf, IsCause}
use Rattle.dns_scan.specs.Tokens.{Token}
use Rattle.dns_zone.specs.EntryFields.{Content, number, hex_octets, base64_octets, text_octets, field_text, IsContent, IsPrintable, contents_of}
use Rattle.dns_zone.specs.EntryLines.{line_document}
use Rattle.dns_zone.specs.EntryErrors.{IsEntryFault}
use Rattle.dns_lexer.specs.declared.error.SplitError.TheVariants.{BadText, ShortBuf}
use Rattle.dns_laws.specs.declared.lines.Refusal.{Refusal}
use Rattle.dns_laws.specs.declared.lines.Refusal.TheVariants.{Line, Split}
use Rattle.dns_zone.specs.declared.entry.FieldKind.{FieldKind}
use Rattle.dns_zone.specs.declared.entry.FieldKind.TheVariants.{Number, Hex, Base64, Text}
use Rattle.dns_laws.specs.declared.lines.Scanned.{Scanned}
use Rattle.dns_laws.specs.declared.lines.Scanned.TheVariants.{Number as NumberScanned, Octets, Text as TextScanned}
use Rattle.dns_zone.specs.declared.entry.Field.{Field}
use Rattle.dns_zone.specs.Layout.{Step}

-- the entries of a line: one, with a token for each field
abbrev pub line_entries : List Content → Entries
line_entries fields = map field_text fields ∷ []

-- why fields weren't printed as a line and split: the first that isn't a token, or out of memory
abbrev pub IsLineRefusal : List Content → Refusal → Type 0
IsLineRefusal fields (Line error) = IsEntryFault fields error
IsLineRefusal fields (Split (BadText place)) = ⊥
IsLineRefusal fields (Split ShortBuf) = ⊤

-- the parsed text of a token: a word itself, or the text between double quotes of a quoted string
abbrev pub IsScannedOf : (token scanned : Token) → Type 0
IsScannedOf token scanned = (IsWord token × (scanned ≡ token)) ⊎ (token ≡ double_quote ∷ (scanned ++ double_quote ∷ []))

-- the value that a field's token parses as
abbrev pub kind_of : Content → FieldKind
kind_of (number n) = Number
kind_of (hex_octets os) = Hex
kind_of (base64_octets os) = Base64
kind_of (text_octets os) = Text

-- the result has these octets, or is "short buffer" if they exceed the guaranteed capacity
abbrev pub ReturnsOctets : {O E : Type 0} → (E → Cause) → (O → List ℕ) → Room → List ℕ → Result (Scanned O) E → Type 0
ReturnsOctets {O} cause octets room os r = ((o : O) × (r ≡ Ok (Octets o)) × (octets o ≡ os)) ⊎ (IsCause cause r short_buf × (room.fits < length os))

-- the result is the field's value, if its octets fit
abbrev pub ReturnsField : {O E : Type 0} → (E → Cause) → (O → List ℕ) → Room → Content → Result (Scanned O) E → Type 0
ReturnsField cause octets room (number n) r = r ≡ Ok (NumberScanned n)
ReturnsField cause octets room (hex_octets os) r = ReturnsOctets cause octets room os r
ReturnsField cause octets room (base64_octets os) r = ReturnsOctets cause octets room os r
ReturnsField cause octets room (text_octets os) r = (r ≡ Ok (TextScanned os)) ⊎ (IsCause cause r short_buf × (room.fits < length os))

-- r is the result of parsing the token of a field of that kind: the field's value, if its octets fit
abbrev pub KindBack : {O E : Type 0} → FieldKind → (E → Cause) → (O → List ℕ) → Room → Token → Result (Scanned O) E → Type 0
KindBack kind cause octets room token r =
    (field : Content) → IsContent field → IsPrintable field → kind_of field ≡ kind → IsScannedOf (field_text field) token → ReturnsField cause octets room field r

-- the document of a line of fields
abbrev pub fields_steps : {A : Type 0} → List (Field A) → List Step
fields_steps fields = line_document (contents_of fields)

-- its entries
abbrev pub fields_line : {A : Type 0} → List (Field A) → Entries
fields_line fields = line_entries (contents_of fields)
