-- The entries of a text, one after another.
use Rattle.std.specs.Prelude.{◌≡◌, ◌≢◌, false, ℕ, List, [], ◌∷◌, ◌++◌, Option, Some, None, Result, Ok, Err}
use Rattle.std.specs.List.{AllByRecursion}
use Rattle.dns_octets.specs.Room.{Room}
use Rattle.dns_lexer.specs.EntryTokens.{EndIs, IsSeen}
use Rattle.dns_lexer.specs.Pieces.{AreOctets}
use Rattle.dns_lexer.specs.declared.pieces.EndOfEntry.{EndOfEntry}
use Rattle.dns_lexer.specs.declared.pieces.Fault.{Fault}
use Rattle.rdata_fields.specs.RecordErrors.{error_of_fault}
use Rattle.rdata_fields.specs.declared.record_error.RecordError.{RecordError}
use Rattle.zone_reader.specs.EntryReading.{ReadsZoneEntry}
use Rattle.zone_reader.specs.Source.{BeginsEntry, SourceSeen, StartsAfterLine, parts_after_unread, entry_end, unread_entry_tokens}
use Rattle.zone_reader.specs.declared.entry.ParsedEntry.{ParsedEntry}
use Rattle.zone_reader.specs.declared.entry.ParsedEntry.TheVariants.{Directive}
use Rattle.zone_reader.specs.declared.records.RecordReader.{RecordReader}
use Rattle.zone_reader.specs.declared.source.StartOfEntry.{StartOfEntry}
use Rattle.zone_reader.specs.declared.state.State.{State}

-- the reader is at the start of a text, with a state
pub record StartsText (octets : List ℕ) (state : State) (r : RecordReader) : Type 0 where
  pub are_octets : AreOctets octets
  pub octets_is : r.octets.now ≡ octets
  pub parts : IsSeen octets r.source.parts
  pub closed : r.source.is_open ≡ false
  pub began : r.source.began ≡ 0
  pub taken : r.source.taken ≡ None
  pub state_is : r.state ≡ state

-- only the source has moved
abbrev pub Unread : State → List ℕ → State → List ℕ → Type 0
Unread before old after new = (after ≡ before) × (new ≡ old)

-- the source is after the end of an entry, or after the line of the syntax error that cuts it off
abbrev pub IsAfterEntry : List ℕ → SourceSeen → Result EndOfEntry Fault → SourceSeen → Type 0
IsAfterEntry octets begun (Ok end) after = (parts_after_unread begun ≡ Ok (EndIs end) ∷ after.parts) × (after.is_open ≡ false) × (after.began ≡ end.at) × (after.taken ≡ None)
IsAfterEntry octets begun (Err fault) after = (parts_after_unread begun ≡ Err fault ∷ []) × StartsAfterLine octets fault.at after

-- what is returned for an entry that has an end; and for one that a syntax error cuts off
abbrev pub result_of_entry : Result EndOfEntry Fault → Result ParsedEntry RecordError → Result ParsedEntry RecordError
result_of_entry (Ok end) read = read
result_of_entry (Err fault) read = Err (error_of_fault fault)

-- an open entry is read by its tokens and the state, up to its end; or no further entry comes; or a syntax error comes first, and its line is skipped
abbrev pub ReadsBegun : Room → List ℕ → SourceSeen → Result (Option StartOfEntry) Fault → State → List ℕ → Option (Result ParsedEntry RecordError) → RecordReader → List ℕ → Type 0
ReadsBegun room octets begun (Ok (Some start)) before old result after new =
    (read : Result ParsedEntry RecordError) × (end : Result EndOfEntry Fault) × ReadsZoneEntry room start.begins_blank (entry_end begun).at (unread_entry_tokens begun) before old read after.state new
    × IsAfterEntry octets begun end after.source × (result ≡ Some (result_of_entry end read))
ReadsBegun room octets begun (Ok None) before old result after new = (result ≡ None) × (after.source ≡ begun) × Unread before old after.state new
ReadsBegun room octets begun (Err fault) before old result after new = (result ≡ Some (Err (error_of_fault fault))) × StartsAfterLine octets fault.at after.source × Unread before old after.state new

-- the next entry that has tokens is begun, and read
pub record ReadsNextEntry (room : Room) (before : RecordReader) (old : List ℕ) (result : Option (Result ParsedEntry RecordError)) (after : RecordReader) (new : List ℕ) : Type 0 where
  pub start : Result (Option StartOfEntry) Fault
  pub begun : SourceSeen
  pub begins : BeginsEntry before.source start begun
  pub reads : ReadsBegun room before.octets.now begun start before.state old result after new
  pub octets_stay : after.octets.now ≡ before.octets.now

-- a call: the octets before it, its result, the octets after it, and the state that it leaves
pub record EntryResult : Type 0 where
  pub old : List ℕ
  pub result : Result ParsedEntry RecordError
  pub new : List ℕ
  pub state : State

-- calls one after another: each begins where the one before stopped
pub data AreSuccessiveResults (room : Room) (first : RecordReader) : List EntryResult → RecordReader → Type 0 where
  none_given : AreSuccessiveResults room first [] first
  given_next : (given : List EntryResult) (middle last : RecordReader) (g : EntryResult) → AreSuccessiveResults room first given middle → ReadsNextEntry room middle g.old (Some g.result) last g.new → last.state ≡ g.state
      → AreSuccessiveResults room first (given ++ g ∷ []) last

-- a directive, which leaves the octets
abbrev pub IsDirectiveResult : List ℕ → EntryResult → Type 0
IsDirectiveResult old g = (g.old ≡ old) × (g.result ≡ Ok Directive) × (g.new ≡ old)

-- directives are read, and then something that is not a directive
pub record ReadsNextRecord (room : Room) (before : RecordReader) (old : List ℕ) (result : Option (Result ParsedEntry RecordError)) (after : RecordReader) (new : List ℕ) : Type 0 where
  pub directives : List EntryResult
  pub middle : RecordReader
  pub row : AreSuccessiveResults room before directives middle
  pub are_directives : AllByRecursion (IsDirectiveResult old) directives
  pub last : ReadsNextEntry room middle old result after new
  pub is_last : result ≢ Some (Ok Directive)

-- a reader that starts at the text with a state returns this for the first entry, and has the state after it
pub record ReadsTextEntry (room : Room) (text : List ℕ) (before : State) (old : List ℕ) (result : Option (Result ParsedEntry RecordError)) (after : State) (new : List ℕ) : Type 0 where
  pub reader : RecordReader
  pub starts : StartsText text before reader
  pub next : RecordReader
  pub reads : ReadsNextEntry room reader old result next new
  pub state_is : next.state ≡ after
