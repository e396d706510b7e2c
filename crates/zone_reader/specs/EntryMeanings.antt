-- What the tokens of an entry mean.
use Rattle.std.specs.Prelude.{ℕ, ◌≡◌, Bool, true, false, List, [], ◌∷◌, Option, Some, None, Result, Ok, Err}
use Rattle.rdata_fields.specs.RecordErrors.{error_at}
use Rattle.rdata_fields.specs.declared.record_error.RecordError.{RecordError}
use Rattle.rdata_values.specs.declared.error.ErrorKind.{ErrorKind}
use Rattle.rdata_values.specs.declared.error.ErrorKind.TheVariants.{EndOfEntry, TrailingArgument}
use Rattle.dns_lexer.specs.EntryTokens.{TokenSeen}
use Rattle.zone_reader.specs.Arguments.{ParsesDefaultTtl}
use Rattle.zone_reader.specs.Directives.{directive_of}
use Rattle.zone_reader.specs.Headers.{ParsesHeader}
use Rattle.zone_reader.specs.declared.directive.Directive.{Directive}
use Rattle.zone_reader.specs.declared.directive.Directive.TheVariants.{Origin, Ttl, Include, Generate}
use Rattle.zone_reader.specs.declared.header.RecordHeader.{RecordHeader}
use Rattle.zone_reader.specs.declared.header.HeaderError.{HeaderError}

pub data EntryMeaning : Type 0 where
  -- nothing: the entry has no tokens
  says_nothing : EntryMeaning
  -- the token is the origin from here on
  says_origin : TokenSeen → EntryMeaning
  -- the default TTL in seconds (`$TTL`), or why it is rejected
  says_default_ttl : Result ℕ RecordError → EntryMeaning
  -- a file to include, and the token of its origin, if it has one
  says_include : List ℕ → Option TokenSeen → EntryMeaning
  -- an entry for each number of a range; the tokens after the word are not read
  says_generate : EntryMeaning
  -- a record: the token of its owner, unless the entry begins with a blank; its TTL, class and type, or why they are rejected; and the tokens of its data
  says_record : Option TokenSeen → Result RecordHeader HeaderError → List TokenSeen → EntryMeaning
  -- a directive is rejected
  says_refused : RecordError → EntryMeaning

abbrev says_refused_at : ℕ → ErrorKind → EntryMeaning
says_refused_at at why = says_refused (error_at at why)

-- the tokens after a directive's word
abbrev pub DirectiveMeans : Directive → ℕ → List TokenSeen → EntryMeaning → Type 0
DirectiveMeans Origin end [] m = m ≡ says_refused_at end EndOfEntry
DirectiveMeans Origin end (name ∷ []) m = m ≡ says_origin name
DirectiveMeans Origin end (name ∷ t ∷ ts) m = m ≡ says_refused_at t.at TrailingArgument
DirectiveMeans Ttl end tokens m = (r : Result ℕ RecordError) × (left : List TokenSeen) × ParsesDefaultTtl end tokens r left × (m ≡ says_default_ttl r)
DirectiveMeans Include end [] m = m ≡ says_refused_at end EndOfEntry
DirectiveMeans Include end (file ∷ []) m = m ≡ says_include file.text None
DirectiveMeans Include end (file ∷ origin ∷ []) m = m ≡ says_include file.text (Some origin)
DirectiveMeans Include end (file ∷ origin ∷ t ∷ ts) m = m ≡ says_refused_at t.at TrailingArgument
DirectiveMeans Generate end tokens m = m ≡ says_generate

-- the tokens after a record's owner
abbrev pub RecordMeans : Option TokenSeen → ℕ → List TokenSeen → EntryMeaning → Type 0
RecordMeans owner end tokens m = (r : Result RecordHeader HeaderError) × (left : List TokenSeen) × ParsesHeader end tokens r left × (m ≡ says_record owner r left)

-- the first token names a directive, or is a record's owner
abbrev pub FirstTokenMeans : Option (Result Directive ErrorKind) → ℕ → TokenSeen → List TokenSeen → EntryMeaning → Type 0
FirstTokenMeans None end t ts m = RecordMeans (Some t) end ts m
FirstTokenMeans (Some (Ok d)) end t ts m = DirectiveMeans d end ts m
FirstTokenMeans (Some (Err why)) end t ts m = m ≡ says_refused_at t.at why

-- the tokens of an entry, whether it begins with a blank, and the offset of its end
abbrev pub EntryMeans : Bool → ℕ → List TokenSeen → EntryMeaning → Type 0
EntryMeans blank end [] m = m ≡ says_nothing
EntryMeans true end (t ∷ ts) m = RecordMeans None end (t ∷ ts) m
EntryMeans false end (t ∷ ts) m = FirstTokenMeans (directive_of t) end t ts m
