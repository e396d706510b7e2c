-- The result of a call for the next record of a zone file.
use Rattle.std.specs.Prelude.{⊤, ◌≡◌, ◌⊎◌, ◌<◌, ◌≤◌, ℕ, List, [], length, drop, take, Option, Some, None, Result, Ok, Err}
use Rattle.rdata_fields.specs.declared.record_error.RecordError.{RecordError}
use Rattle.rdata_values.specs.declared.classes.Class.{Class}
use Rattle.rdata_values.specs.declared.types.RecordType.{RecordType}
use Rattle.dns_octets.specs.Room.{exactly}
use Rattle.zone_reader.specs.HeaderWords.{ttl_of_seconds}
use Rattle.zone_reader.specs.Included.{IsIncluded}
use Rattle.zone_reader.specs.Past.{seconds_of}
use Rattle.zone_reader.specs.Records.{ReadsNextRecord}
use Rattle.zone_reader.specs.TextPieces.{StartsAt}
use Rattle.zone_reader.specs.declared.entry.ParsedEntry.{ParsedEntry}
use Rattle.zone_reader.specs.declared.entry.ParsedEntry.TheVariants.{Empty, Directive, Include, Generate, Record as RecordRead}
use Rattle.zone_reader.specs.declared.known.NameState.{NameState}
use Rattle.zone_reader.specs.declared.known.NameState.TheVariants.{Unset}
use Rattle.zone_reader.specs.declared.line.LineRead.{LineRead}
use Rattle.zone_reader.specs.declared.records.RecordReader.{RecordReader}
use Rattle.zone_reader.specs.declared.state.State.{State}
use Rattle.zone_reader.specs.declared.ttl.RecordTtl.{RecordTtl}
use Rattle.c_calls.specs.Kept.{HoldsState, KeepsName, KeepsState, optional_origin}
use Rattle.c_calls.specs.Reasons.{ReportsError}
use Rattle.c_calls.specs.Reports.{ReportsFault, at_start, number_of}
use Rattle.c_calls.specs.declared.kept.Zone.{Zone}
use Rattle.c_calls.specs.declared.outcome.Outcome.{Outcome}
use Rattle.c_calls.specs.declared.outcome.Refusal.TheVariants.{NoRoom, BadCursor}
use Rattle.c_calls.specs.declared.records.RecordNumbers.{RecordNumbers}
use Rattle.c_calls.specs.declared.records.Record.{Record}

-- the memory that a call writes, besides its outcome
pub record Memory : Type 0 where
  pub zone : Zone
  pub found : Record
  pub octets : List ℕ

abbrev pub memory : Zone → Record → List ℕ → Memory
memory zone found octets = record { zone = zone; found = found; octets = octets }

-- a call: the memory before and after it, its status and its outcome
pub record RecordCall : Type 0 where
  pub before : Memory
  pub after : Memory
  pub status : ℕ
  pub outcome : Outcome

-- the reader's state is stored, and its offset
abbrev pub KeepsReader : RecordReader → Zone → Zone → Type 0
KeepsReader reader old new = KeepsState reader.state reader.source.began old new

-- the numbers of a record
abbrev pub head_of : Record → RecordNumbers
head_of found = record { place = found.place; data_at = found.«data»; end = found.end; ttl = found.ttl; class = found.class_code; rtype = found.type_code }

-- the octets are returned with a status, a name and numbers, and the zone advances; if they don't fit, nothing was written
pub record ReportsFound (status : ℕ) (reader : RecordReader) (octets : List ℕ) (name : NameState) (head : RecordNumbers) (call : RecordCall) : Type 0 where
  pub outcome_is : call.outcome ≡ record { length = length octets; place = 0 }
  pub given : length octets ≤ length call.before.octets → (call.status ≡ status) × (take (length octets) call.after.octets ≡ octets)
      × (drop (length octets) call.after.octets ≡ drop (length octets) call.before.octets) × KeepsName name call.before.found.name call.after.found.name
      × (head_of call.after.found ≡ head) × KeepsReader reader call.before.zone call.after.zone
  pub lacks : length call.before.octets < length octets → (call.status ≡ number_of NoRoom) × (call.after ≡ call.before)

-- an error is reported, and the zone advances past it
pub record ReportsRejected (reader : RecordReader) (error : RecordError) (call : RecordCall) : Type 0 where
  pub reason : ReportsError error call.before.octets call.status call.after.octets call.outcome
  pub keeps : KeepsReader reader call.before.zone call.after.zone
  pub found_stays : call.after.found ≡ call.before.found

-- nothing is left, and the zone advances; nothing else was written
pub record ReportsEnd (reader : RecordReader) (call : RecordCall) : Type 0 where
  pub status_is : call.status ≡ 1
  pub outcome_is : call.outcome ≡ record { length = 0; place = 0 }
  pub keeps : KeepsReader reader call.before.zone call.after.zone
  pub found_stays : call.after.found ≡ call.before.found
  pub octets_stay : call.after.octets ≡ call.before.octets

-- the numbers of a record; and those of a directive, which has neither data nor a TTL, a class and a type
abbrev pub head_with : ℕ → ℕ → ℕ → ℕ → Class → RecordType → RecordNumbers
head_with at data_at end ttl class rtype = record { place = at; data_at = data_at; end = end; ttl = ttl; class = class; rtype = rtype }

abbrev pub directive_head : ℕ → ℕ → RecordNumbers
directive_head at end = head_with at end end 0 0 0

-- the TTL of a record as it is returned: from 2^31 on it is 0 (RFC 2181 section 8)
abbrev pub returned_ttl : RecordTtl → ℕ
returned_ttl ttl = ttl_of_seconds (seconds_of ttl)

-- the numbers of an entry, if it is a record
abbrev pub head_in : ParsedEntry → Option RecordNumbers
head_in (RecordRead at data_at end ttl class rtype) = Some (head_with at data_at end (returned_ttl ttl) class rtype)
head_in (Include at end file has_origin) = None
head_in (Generate at end) = None
head_in Empty = None
head_in Directive = None

-- a line is a record with these numbers
abbrev pub IsHeadOfLine : RecordNumbers → LineRead → Type 0
IsHeadOfLine head line = (read : ParsedEntry) × (line.read ≡ Ok read) × (head_in read ≡ Some head)

-- the record of a line is returned: as of each reader that has this state then, and is at this offset
abbrev pub ReportsLine : State → ℕ → List ℕ → RecordNumbers → RecordCall → Type 0
ReportsLine state at octets head call = (reader : RecordReader) → reader.state ≡ state → reader.source.began ≡ at → ReportsFound 0 reader octets state.owner head call

-- for a file to include, the octets are those of its name, and after them those of its origin
abbrev pub HasIncluded : Option (Result ParsedEntry RecordError) → List ℕ → Type 0
HasIncluded (Some (Ok (Include at end file has_origin))) octets = IsIncluded file has_origin octets
HasIncluded _ octets = ⊤

-- the report of the reader's result: a record with its owner; a file to include, or a `$GENERATE` directive, with the offsets of the directive; an error; or that nothing is left
abbrev pub ReportsResult : Option (Result ParsedEntry RecordError) → RecordReader → List ℕ → RecordCall → Type 0
ReportsResult None reader octets call = ReportsEnd reader call
ReportsResult (Some (Err e)) reader octets call = ReportsRejected reader e call
ReportsResult (Some (Ok (RecordRead at data_at end ttl class rtype))) reader octets call = ReportsFound 0 reader octets reader.state.owner (head_with at data_at end (returned_ttl ttl) class rtype) call
ReportsResult (Some (Ok (Include at end file has_origin))) reader octets call = (read : IsIncluded file has_origin octets) × ReportsFound 26 reader read.name (optional_origin read.origin) (directive_head at end) call
ReportsResult (Some (Ok (Generate at end))) reader octets call = ReportsFound 36 reader [] Unset (directive_head at end) call
ReportsResult (Some (Ok Empty)) reader octets call = ⊥
ReportsResult (Some (Ok Directive)) reader octets call = ⊥

-- a reader at the zone's offset, with the state that the zone holds, returns the next record, and this is reported
pub record ReadsZone (text : List ℕ) (state : State) (call : RecordCall) : Type 0 where
  pub before : RecordReader
  pub after : RecordReader
  pub given : Option (Result ParsedEntry RecordError)
  pub octets : List ℕ
  pub starts : StartsAt text call.before.zone.at state before
  pub reads : ReadsNextRecord (exactly 65535) before [] given after octets
  pub tells : ReportsResult given after octets call

-- a zone without a valid state, or with an offset past the end, is rejected, and nothing was written; and else the next record is read
abbrev pub NextRecord : List ℕ → RecordCall → Type 0
NextRecord text call =
    ((HoldsState call.before.zone None ⊎ (length text < call.before.zone.at)) × ReportsFault (at_start BadCursor) call.status call.outcome × (call.after ≡ call.before))
    ⊎ ((state : State) × HoldsState call.before.zone (Some state) × (call.before.zone.at ≤ length text) × ReadsZone text state call)

-- a call that returns a status reads the next record, and one that returns none changes nothing
abbrev pub NextIfRead : List ℕ → Option ℕ → (ℕ → RecordCall) → Type 0
NextIfRead text (Some status) call = NextRecord text (call status)
NextIfRead text None call = (status : ℕ) → (call status).after ≡ (call status).before
