-- Calls for the records of a zone file, one after another.
use Rattle.std.specs.Prelude.{◌≡◌, ◌≢◌, ℕ, List, [], ◌∷◌, Some, None, Result}
use Rattle.rdata_fields.specs.declared.record_error.RecordError.{RecordError}
use Rattle.dns_octets.specs.Room.{exactly}
use Rattle.dns_lexer.specs.Pieces.{AreOctets}
use Rattle.zone_reader.specs.Records.{ReadsNextRecord, StartsText}
use Rattle.zone_reader.specs.declared.entry.ParsedEntry.{ParsedEntry}
use Rattle.zone_reader.specs.declared.records.RecordReader.{RecordReader}
use Rattle.zone_reader.specs.declared.state.State.{State}
use Rattle.c_calls.specs.Kept.{HoldsState}
use Rattle.c_calls.specs.Records.{NextRecord, RecordCall, ReportsResult}
use Rattle.c_calls.specs.Reports.{number_of}
use Rattle.c_calls.specs.declared.kept.Zone.{Zone}
use Rattle.c_calls.specs.declared.outcome.Refusal.TheVariants.{NoRoom}

-- a call with a buffer that is large enough
pub record HasRoom (text : List ℕ) (call : RecordCall) : Type 0 where
  pub answers : NextRecord text call
  pub room : call.status ≢ number_of NoRoom

-- calls from a zone on, each with the zone that the one before left, up to the one that reports that nothing is left
abbrev pub RecordCalls : List ℕ → Zone → List RecordCall → Type 0
RecordCalls text zone [] = ⊥
RecordCalls text zone (call ∷ []) = (call.before.zone ≡ zone) × HasRoom text call × (call.status ≡ 1)
RecordCalls text zone (call ∷ next ∷ more) = (call.before.zone ≡ zone) × HasRoom text call × (call.status ≢ 1) × RecordCalls text call.after.zone (next ∷ more)

-- a call returns the next result of the reader
pub record ReportsNextRecord (reader after : RecordReader) (given : Result ParsedEntry RecordError) (call : RecordCall) : Type 0 where
  pub octets : List ℕ
  pub reads : ReadsNextRecord (exactly 65535) reader [] (Some given) after octets
  pub tells : ReportsResult (Some given) after octets call

-- the reader returns what the calls return, one after another, and then nothing
abbrev pub CallsReturnRecords : RecordReader → List RecordCall → Type 0
CallsReturnRecords reader [] = ⊥
CallsReturnRecords reader (call ∷ []) = (after : RecordReader) × (octets : List ℕ) × ReadsNextRecord (exactly 65535) reader [] None after octets
CallsReturnRecords reader (call ∷ next ∷ more) = (after : RecordReader) × (given : Result ParsedEntry RecordError) × ReportsNextRecord reader after given call × CallsReturnRecords after (next ∷ more)

-- calls from the start of a text, with a state, return exactly what one reader of the whole text returns
abbrev pub RecordCallsReturnAll : Type 0
RecordCallsReturnAll = (text : List ℕ) (state : State) (zone : Zone) (calls : List RecordCall) → AreOctets text → zone.at ≡ 0 → HoldsState zone (Some state) → RecordCalls text zone calls
    → (reader : RecordReader) × StartsText text state reader × CallsReturnRecords reader calls
