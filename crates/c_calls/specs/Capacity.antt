-- What is read alike with any capacity.
use Rattle.std.specs.Prelude.{ℕ, ◌≡◌, Bool, List, false, Result, Err}
use Rattle.rdata_fields.specs.declared.record_error.RecordError.{RecordError}
use Rattle.rdata_values.specs.declared.error.ErrorKind.TheVariants.{ShortBuf}
use Rattle.dns_octets.specs.Room.{Room, exactly}
use Rattle.zone_reader.specs.Records.{ReadsNextEntry, ReadsNextRecord}
use Rattle.zone_reader.specs.declared.records.RecordReader.{RecordReader}
use Rattle.c_calls.specs.declared.record_reading.NextRead.{NextRead}
use Rattle.c_calls.specs.declared.record_reading.ZoneReader.{ZoneReader}

-- a fact with a capacity of n octets; and with any capacity, unless octets don't fit
abbrev pub InCapacity : ℕ → Bool → (Room → Type 0) → Type 0
InCapacity n lacks Holds = Holds (exactly n) × (lacks ≡ false → (room : Room) → Holds room)

-- the result is the error of octets that don't fit
abbrev pub ErrorLacksRoom : {X : Type 0} → Result X RecordError → Type 0
ErrorLacksRoom result = (e : RecordError) × (result ≡ Err e) × (e.kind ≡ ShortBuf)

-- the reader of records with the same octets, source and state
abbrev pub as_reader : ZoneReader → RecordReader
as_reader r = record { octets = r.octets; source = r.source; state = r.state }

-- the next entry is read with capacity n, and with any capacity unless its octets don't fit
abbrev pub ReadsEntryIn : ℕ → ZoneReader → List ℕ → NextRead → ZoneReader → List ℕ → Type 0
ReadsEntryIn n before old read after new = InCapacity n read.lacks (λ room. ReadsNextEntry room (as_reader before) old read.given (as_reader after) new)

-- and so is the next record
abbrev pub ReadsRecordIn : ℕ → ZoneReader → List ℕ → NextRead → ZoneReader → List ℕ → Type 0
ReadsRecordIn n before old read after new = InCapacity n read.lacks (λ room. ReadsNextRecord room (as_reader before) old read.given (as_reader after) new)
