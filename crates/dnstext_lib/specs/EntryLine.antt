-- The arguments, the output and the status of the program's `line`.
use Rattle.std.specs.Prelude.{ℕ, List, [], ◌∷◌, ◌++◌, ◌≡◌, ◌⊎◌, Option, Some, None, Ok, codes, map, Result, MatchResult}
use Rattle.std.specs.Fmt.{WritesInCalls}
use Rattle.dns_octets.specs.Room.{exactly}
use Rattle.dns_symbol.specs.Characters.{line_feed}
use Rattle.dns_symbol.specs.declared.symbol.Symbol.{Symbol}
use Rattle.dns_symbol.specs.Text.{SymbolsOf}
use Rattle.dns_scan.specs.Answers.{AllOctetsFit}
use Rattle.dns_symbol.specs.Cause.{Cause}
use Rattle.dns_scan.specs.Numbers.{IsNumber, greatest}
use Rattle.dns_scan.specs.Steps.{step_octet}
use Rattle.dns_scan.specs.Tokens.{Token}
use Rattle.dns_zone.specs.Printed.{printed}
use Rattle.dns_zone.specs.declared.zonefile_fmt.DisplayKind.{DisplayKind}
use Rattle.dns_zone.specs.EntryFields.{Content, number, hex_octets, base64_octets, text_octets, content_of}
use Rattle.dns_zone.specs.EntryLines.{IsLine, line_document}
use Rattle.dns_zone.specs.EntryErrors.{IsEntryFault, entry_error_text}
use Rattle.dns_zone.specs.declared.entry.error.EntryError.{EntryError}
use Rattle.dns_zone.specs.EntryCodecs.{ConvertsTo, hex_codec, base64_codec}
use Rattle.dnstext_lib.specs.Print.{layout_name, NoMemory}
use Rattle.dnstext_lib.specs.Program.{IsRefused, cause_text}
use Rattle.dns_scan.specs.StrError.{str_cause}
use Rattle.dnstext_lib.specs.declared.program.ScanKind.TheVariants.{U32, Charstr, Hex as HexScan, Base64 as Base64Scan}
use Rattle.dns_zone.specs.declared.entry.FieldKind.{FieldKind}
use Rattle.dns_zone.specs.declared.entry.FieldKind.TheVariants.{Number, Hex, Base64, Text}
use Rattle.dnstext_lib.specs.declared.line.FieldWord.{FieldWord}
use Rattle.dnstext_lib.specs.declared.line.FieldsError.{FieldsError}
use Rattle.dnstext_lib.specs.declared.line.FieldsError.TheVariants.{Refused, NoMemory as OutOfMemory}
use Rattle.dns_zone.specs.declared.entry.Field.{Field}
use Rattle.dns_scan.specs.declared.error.StrError.{StrError}

-- the kind of a field, and the text of its token
abbrev pub Asked : Type 0
Asked = FieldKind × Token

abbrev pub asked_of : FieldWord → Asked
asked_of word = (word.kind, word.text.now)

-- the prefix of the argument of a field
abbrev pub mark : FieldKind → List ℕ
mark Number = codes "n:"
mark Hex = codes "x:"
mark Base64 = codes "b:"
mark Text = codes "s:"

-- the argument for a field
abbrev pub field_word : Asked → List ℕ
field_word asked = mark asked.0 ++ asked.1

-- the arguments `FIELD..`
abbrev pub AsksFields : List (List ℕ) → List Asked → Type 0
AsksFields words asked = words ≡ map field_word asked

-- some argument isn't a field
abbrev pub AsksNoFields : List (List ℕ) → Type 0
AsksNoFields words = (asked : List Asked) → AsksFields words asked → ⊥

-- the arguments `line KIND FIELD..`
abbrev pub IsLineCommand : List (List ℕ) → DisplayKind → List (List ℕ) → Type 0
IsLineCommand words kind fields = words ≡ codes "line" ∷ layout_name kind ∷ fields

-- the token is a value of a field of that kind
abbrev pub FieldHolds : FieldKind → Token → Content → Type 0
FieldHolds Number token c = (symbols : List Symbol) × SymbolsOf token symbols None × ((v : ℕ) × IsNumber (greatest 32) symbols v × (c ≡ number v))
FieldHolds Hex token c = (octets : List ℕ) × ConvertsTo hex_codec token (Ok octets) × (c ≡ hex_octets octets)
FieldHolds Base64 token c = (octets : List ℕ) × ConvertsTo base64_codec token (Ok octets) × (c ≡ base64_octets octets)
FieldHolds Text token c = (symbols : List Symbol) × SymbolsOf token symbols None × ((octets : List ℕ) × AllOctetsFit step_octet (exactly 255) symbols None octets × (c ≡ text_octets octets))

-- the token isn't of the kind, or its allocation failed, and that is the error
abbrev pub NoField : FieldKind → Token → Cause → Type 0
NoField Number = IsRefused U32
NoField Hex = IsRefused HexScan
NoField Base64 = IsRefused Base64Scan
NoField Text = IsRefused Charstr

-- the field that was made of a token, or its error
abbrev pub MakesField : {A : Type 0} → FieldKind → Token → Result (Field A) StrError → Type 0
MakesField kind token r = MatchResult r (λ field. FieldHolds kind token (content_of field)) (λ e. NoField kind token (str_cause e))

-- the fields of tokens up to the first error, and that error
abbrev pub FieldsRun : List Asked → List Content → Option Cause → Type 0
FieldsRun [] fields refusal = (fields ≡ []) × (refusal ≡ None)
FieldsRun (asked ∷ more) fields refusal =
    ((c : Content) × (others : List Content) × FieldHolds asked.0 asked.1 c × (fields ≡ c ∷ others) × FieldsRun more others refusal)
    ⊎ ((why : Cause) × NoField asked.0 asked.1 why × (fields ≡ []) × (refusal ≡ Some why))

-- the first field was made
abbrev pub FirstHolds : List Asked → Type 0
FirstHolds [] = ⊥
FirstHolds (asked ∷ more) = (c : Content) × FieldHolds asked.0 asked.1 c

-- why fields weren't made: a token was rejected; or the list couldn't be allocated, after a field was made
abbrev pub FieldsUnmade : List Asked → FieldsError → Type 0
FieldsUnmade asked (Refused e) = (fields : List Content) × FieldsRun asked fields (Some (str_cause e))
FieldsUnmade asked OutOfMemory = FirstHolds asked

-- the fields are a line, and its text in the layout was written, and a line end
abbrev pub LinePrinted : {O : Type 0} → (O → List ℕ → O → Type 0) → DisplayKind → List Asked → O → O → Type 0
LinePrinted took kind asked o p =
    (fields : List Content) × FieldsRun asked fields None × IsLine fields × WritesInCalls took o (printed kind (line_document fields) ++ line_feed ∷ []) p

-- the error of `FIELD..`: a token isn't a field, or the fields aren't a line, and nothing was printed; or their text didn't fit; or out of memory
abbrev pub LineRefused : {O : Type 0} → List (List ℕ) → O → O → List ℕ → Type 0
LineRefused words o p reason =
    ((asked : List Asked) × (fields : List Content) × (why : Cause) × AsksFields words asked × FieldsRun asked fields (Some why) × (p ≡ o) × (reason ≡ cause_text why))
    ⊎ (((asked : List Asked) × (fields : List Content) × (error : EntryError) × AsksFields words asked × FieldsRun asked fields None × IsEntryFault fields error ×
    (p ≡ o) × (reason ≡ entry_error_text error))
    ⊎ (((asked : List Asked) × (fields : List Content) × AsksFields words asked × FieldsRun asked fields None × IsLine fields × (reason ≡ codes "write failed"))
    ⊎ NoMemory field_word words o p reason))
