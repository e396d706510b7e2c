-- Records that are printed as a text, one a line, and read.
use Rattle.std.specs.Prelude.{⊤, ◌≡◌, ◌≤◌, ◌<◌, ◌+◌, ◌^◌, ◌++◌, ℕ, List, [], ◌∷◌, length, None, Ok}
use Rattle.std.specs.List.{AllByRecursion}
use Rattle.dns_octets.specs.Room.{Room}
use Rattle.rdata_tokens.specs.NameSpelling.{IsOrigin}
use Rattle.dns_zone.specs.Nesting.{lines_of}
use Rattle.dns_zone.specs.Printed.{printed}
use Rattle.dns_zone.specs.declared.zonefile_fmt.DisplayKind.{DisplayKind}
use Rattle.zone_record.specs.Records.{data_of, record_document}
use Rattle.zone_record.specs.declared.record.Record.{Record}
use Rattle.zone_reader.specs.Past.{known_name}
use Rattle.zone_reader.specs.Records.{AreSuccessiveResults, EntryResult, ReadsNextEntry, StartsText}
use Rattle.zone_reader.specs.declared.entry.ParsedEntry.TheVariants.{Record as IsRecord}
use Rattle.zone_reader.specs.declared.known.NameState.TheVariants.{Name}
use Rattle.zone_reader.specs.declared.records.RecordReader.{RecordReader}
use Rattle.zone_reader.specs.declared.state.State.{State}
use Rattle.zone_reader.specs.declared.ttl.RecordTtl.TheVariants.{Explicit}

-- the text of records in a layout, with a line end after each
abbrev pub records_text : {N O : Type 0} → DisplayKind → List (Record N O) → List ℕ
records_text kind records = printed kind (lines_of record_document records)

-- the result is this record: its own TTL, its class and its type, its owner, and its data after the octets that were in the target
pub record IsRecordReturned {N O : Type 0} (r : Record N O) (g : EntryResult) : Type 0 where
  pub at : ℕ
  pub data_at : ℕ
  pub end : ℕ
  pub is : g.result ≡ Ok (IsRecord at data_at end (Explicit r.ttl) r.class (data_of r).rtype)
  pub owner : g.state.owner ≡ Name r.owner
  pub «data» : g.new ≡ g.old ++ (data_of r).octets

-- the results are these records, one by one, if their data surely fits
abbrev pub AreRecordsReturned : {N O : Type 0} → Room → List (Record N O) → List EntryResult → Type 0
AreRecordsReturned room [] [] = ⊤
AreRecordsReturned room [] (g ∷ given) = ⊥
AreRecordsReturned room (r ∷ records) [] = ⊥
AreRecordsReturned room (r ∷ records) (g ∷ given) = (length g.old + length (data_of r).octets ≤ room.fits → IsRecordReturned r g) × AreRecordsReturned room records given

-- from every state, calls up to the first that returns `None` return exactly these records of their text, in order
abbrev pub IsTextOfRecordsRead : {N O : Type 0} → List (Record N O) → Type 0
IsTextOfRecordsRead records = (room : Room) (kind : DisplayKind) (start : State) (first last after : RecordReader) (given : List EntryResult) (old new : List ℕ) → AllByRecursion (λ r. r.ttl < 2 ^ 31) records
    → IsOrigin (known_name start.origin) → StartsText (records_text kind records) start first → AreSuccessiveResults room first given last → ReadsNextEntry room last old None after new → AreRecordsReturned room records given
