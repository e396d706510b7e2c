-- Why a text, an entry or data is rejected: the status, and the text of the error.
use Rattle.std.specs.Prelude.{◌≡◌, ℕ, Bool, true, false, List, take, Option, Some, None}
use Rattle.error_texts.specs.Errors.{error_text, line_end_text}
use Rattle.rdata_fields.specs.declared.record_error.RecordError.{RecordError}
use Rattle.rdata_values.specs.declared.error.ErrorKind.{ErrorKind}
use Rattle.rdata_values.specs.declared.error.ErrorKind.TheVariants.{Syntax, QuotedName, BadEscape as NoEscape, EmptyLabel as NoOctets, LongLabel as LabelTooLong, LongName as NameTooLong, NoOrigin as OriginUnknown}
use Rattle.rdata_values.specs.declared.error.ErrorKind.TheVariants.{NotSupported as NoneSuch, NoOwner as NoneSaid, RefusedOwner as RefusedBefore, NoTtl as TtlUnknown}
use Rattle.rdata_values.specs.declared.types.RecordType.{RecordType}
use Rattle.dns_lexer.specs.declared.pieces.Wrong.{Wrong}
use Rattle.dns_wire.specs.declared.error.NameError.{NameError}
use Rattle.dns_wire.specs.declared.error.NameError.TheVariants.{BadLabel as NoLabel, CompressedName, LongName, TrailingData, ShortInput as CutShort, Relative, Absolute}
use Rattle.c_calls.specs.Entries.{refusal_of_wrong}
use Rattle.c_calls.specs.Reports.{WritesPrefix, ReportsFault, number_of}
use Rattle.c_calls.specs.declared.outcome.Outcome.{Outcome}
use Rattle.c_calls.specs.declared.outcome.Refusal.{Refusal}
use Rattle.c_calls.specs.declared.outcome.Refusal.TheVariants.{BadLabel, Pointer, TooLong, TrailingOctets, ShortInput, RelativeName}
use Rattle.c_calls.specs.declared.outcome.Refusal.TheVariants.{BadHead, NotSupported, BadName, NoOrigin, NoOwner, RefusedOwner, BadData, NoTtl}

-- why octets are not an absolute name
abbrev pub refusal_of_name : NameError → Refusal
refusal_of_name (NoLabel e) = BadLabel
refusal_of_name CompressedName = Pointer
refusal_of_name LongName = TooLong
refusal_of_name TrailingData = TrailingOctets
refusal_of_name CutShort = ShortInput
refusal_of_name Relative = RelativeName
refusal_of_name Absolute = RelativeName

-- the kind of a syntax error of zone files
abbrev pub syntax_of : ErrorKind → Option Wrong
syntax_of (Syntax wrong) = Some wrong
syntax_of _ = None

-- the status of a rejected directive, or of rejected fields before a record's data; a relative name without an origin has its own
abbrev pub refusal_of_head : ErrorKind → Refusal
refusal_of_head QuotedName = BadName
refusal_of_head NoEscape = BadName
refusal_of_head NoOctets = BadName
refusal_of_head LabelTooLong = BadName
refusal_of_head NameTooLong = BadName
refusal_of_head OriginUnknown = NoOrigin
refusal_of_head NoneSuch = NotSupported
refusal_of_head NoneSaid = NoOwner
refusal_of_head RefusedBefore = RefusedOwner
refusal_of_head TtlUnknown = NoTtl
refusal_of_head _ = BadHead

abbrev pub refusal_of_data : ErrorKind → Refusal
refusal_of_data OriginUnknown = NoOrigin
refusal_of_data _ = BadData

-- the status of a rejected entry, by the type if its data is rejected
abbrev pub refusal_of_entry : Option RecordType → ErrorKind → Refusal
refusal_of_entry None kind = refusal_of_head kind
refusal_of_entry (Some rtype) kind = refusal_of_data kind

-- the status and the offset of an error, and the part of its text that fits
pub record ReportsReason (error : RecordError) (old : List ℕ) (told : ℕ) (new : List ℕ) (outcome : Outcome) : Type 0 where
  pub told_is : told ≡ number_of (refusal_of_entry error.rtype error.kind)
  pub place : outcome.place ≡ error.offset
  pub text : WritesPrefix (take 255 (error_text error)) old new outcome.length

-- a syntax error has a status and an offset, and nothing was written; another error has a text too
abbrev pub ReportsErrorText : Option Wrong → RecordError → List ℕ → ℕ → List ℕ → Outcome → Type 0
ReportsErrorText (Some wrong) error old told new outcome = ReportsFault (record { refusal = refusal_of_wrong wrong; place = error.offset }) told outcome × (new ≡ old)
ReportsErrorText None error old told new outcome = ReportsReason error old told new outcome

abbrev pub ReportsError : RecordError → List ℕ → ℕ → List ℕ → Outcome → Type 0
ReportsError error old told new outcome = ReportsErrorText (syntax_of error.kind) error old told new outcome

-- the status and the offset of a token on a line after that of data, and the part of its text that fits
pub record ReportsNextLine (error : RecordError) (old : List ℕ) (told : ℕ) (new : List ℕ) (outcome : Outcome) : Type 0 where
  pub told_is : told ≡ number_of BadData
  pub place : outcome.place ≡ error.offset
  pub text : WritesPrefix (take 255 (line_end_text error.rtype)) old new outcome.length

-- an error of data that is read alone, and whether it is a token on a line after that of the data
abbrev pub DataError : Type 0
DataError = RecordError × Bool

abbrev pub ReportsDataError : DataError → List ℕ → ℕ → List ℕ → Outcome → Type 0
ReportsDataError (e, false) old told new outcome = ReportsError e old told new outcome
ReportsDataError (e, true) old told new outcome = ReportsNextLine e old told new outcome
