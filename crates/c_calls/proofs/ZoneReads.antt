-- The next entry and the next record are read alike with any capacity, unless the octets of an entry don't fit.
use Rattle.std.proofs.Common.{ℕ, ◌≡◌, ◌≢◌, false, Bool, List, Option, Some, Result, Ok, Err}
use Rattle.std.specs.Prelude.{IsTrue, ◌↔◌}
use Rattle.dns_octets.specs.Room.{Room, exactly}
use Rattle.dns_lexer.specs.declared.pieces.EndOfEntry.{EndOfEntry}
use Rattle.dns_lexer.specs.declared.pieces.Fault.{Fault}
use Rattle.rdata_fields.specs.RecordErrors.{error_of_fault}
use Rattle.rdata_fields.specs.declared.record_error.RecordError.{RecordError}
use Rattle.zone_reader.specs.EntryReading.{ReadsZoneEntry}
use Rattle.zone_reader.specs.Records.{ReadsNextEntry, ReadsNextRecord}
use Rattle.zone_reader.specs.Source.{BeginsEntry, FinishesEntry, SourceSeen, StartsAfterLine, entry_end, unread_entry_tokens}
use Rattle.zone_reader.specs.declared.entry.ParsedEntry.{ParsedEntry}
use Rattle.zone_reader.specs.declared.entry.ParsedEntry.TheVariants.{Directive}
use Rattle.zone_reader.specs.declared.records.RecordReader.{RecordReader}
use Rattle.zone_reader.specs.declared.source.StartOfEntry.{StartOfEntry}
use Rattle.zone_reader.proofs.NextEntries.{next_cut, next_read}
use Rattle.zone_reader.proofs.NextRecords.{PassesDirectives, stops}
use Rattle.c_calls.specs.Capacity.{ErrorLacksRoom, InCapacity}
use Rattle.c_calls.proofs.CutOff.{fits_if}
use Rattle.c_calls.proofs.Rooms.{entry_so, row_so}

module _ (n : ℕ) (lacks : Bool) (before after : RecordReader) (begun middle finished : SourceSeen) (old new : List ℕ) (first : Result (Option StartOfEntry) Fault) (start : StartOfEntry) (last : Result (Option EndOfEntry) Fault)
    (read : Result ParsedEntry RecordError) (tells : IsTrue lacks ↔ ErrorLacksRoom read) (begins : BeginsEntry before.source first begun) (is_start : first ≡ Ok (Some start))
    (reads : ReadsZoneEntry (exactly n) start.begins_blank (entry_end begun).at (unread_entry_tokens begun) before.state old read after.state new) (same : entry_end middle ≡ entry_end begun)
    (finishes : FinishesEntry middle last finished) (octets_stay : after.octets.now ≡ before.octets.now) where
  in_room : lacks ≡ false → (room : Room) → ReadsZoneEntry room start.begins_blank (entry_end begun).at (unread_entry_tokens begun) before.state old read after.state new
  in_room fit room = entry_so (exactly n) room start.begins_blank (entry_end begun).at (unread_entry_tokens begun) before.state after.state old new read (fits_if read lacks tells fit) reads

  -- an entry that has an end
  pub read_in : (end : Option EndOfEntry) → last ≡ Ok end → finished ≡ after.source → InCapacity n lacks (λ room. ReadsNextEntry room before old (Some read) after new)
  read_in end is stays = (
    next_read (exactly n) before after begun middle finished old new first start last read begins is_start reads same finishes octets_stay end is stays,
    λ fit room. next_read room before after begun middle finished old new first start last read begins is_start (in_room fit room) same finishes octets_stay end is stays,
  )

  -- an entry that a syntax error cuts off
  pub cut_in : (fault : Fault) → last ≡ Err fault → StartsAfterLine before.octets.now fault.at after.source → (e : RecordError) → e ≡ error_of_fault fault
      → InCapacity n lacks (λ room. ReadsNextEntry room before old (Some (Err e)) after new)
  cut_in fault is behind e refused = (
    next_cut (exactly n) before after begun middle finished old new first start last read begins is_start reads same finishes octets_stay fault is behind e refused,
    λ fit room. next_cut room before after begun middle finished old new first start last read begins is_start (in_room fit room) same finishes octets_stay fault is behind e refused,
  )

-- directives are skipped alike
passed_so : (one other : Room) (first now : RecordReader) (old new : List ℕ) → PassesDirectives one first old now new → PassesDirectives other first old now new
passed_so one other first now old new h = record { directives = h.directives; row = row_so one other old first now h.directives h.are h.row; are = h.are; stay = h.stay }

pub stops_in : (n : ℕ) (lacks : Bool) (first now after : RecordReader) (old middle new : List ℕ) (given : Option (Result ParsedEntry RecordError)) → PassesDirectives (exactly n) first old now middle → given ≢ Some (Ok Directive)
    → InCapacity n lacks (λ room. ReadsNextEntry room now middle given after new) → InCapacity n lacks (λ room. ReadsNextRecord room first old given after new)
stops_in n lacks first now after old middle new given passed is h = (
  stops (exactly n) first now after old middle new passed given is h.0,
  λ fit room. stops room first now after old middle new (passed_so (exactly n) room first now old middle passed) given is (h.1 fit room),
)
