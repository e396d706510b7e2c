-- The next entry of a text is begun, read and finished.
use Rattle.std.proofs.Common.{◌≡◌, ℕ, true, List, Some, None, Ok, Err, refl, sym, ap, ◌∙◌, subst}
use Rattle.std.specs.Prelude.{Option, Result}
use Rattle.std.proofs.lemmas.Bool.{false≢true}
use Rattle.dns_octets.specs.Room.{Room}
use Rattle.dns_lexer.specs.declared.pieces.EndOfEntry.{EndOfEntry}
use Rattle.dns_lexer.specs.declared.pieces.Fault.{Fault}
use Rattle.rdata_fields.specs.RecordErrors.{error_of_fault}
use Rattle.rdata_fields.specs.declared.record_error.RecordError.{RecordError}
use Rattle.zone_reader.specs.EntryReading.{ReadsZoneEntry}
use Rattle.zone_reader.specs.Records.{ReadsNextEntry, IsAfterEntry, result_of_entry}
use Rattle.zone_reader.specs.Source.{BeginsEntry, FinishesEntry, IsAtStart, SourceSeen, StartsAfterLine, entry_end, unread_entry_tokens}
use Rattle.zone_reader.specs.declared.entry.ParsedEntry.{ParsedEntry}
use Rattle.zone_reader.specs.declared.records.RecordReader.{RecordReader}
use Rattle.zone_reader.specs.declared.source.StartOfEntry.{StartOfEntry}
use Rattle.zone_reader.proofs.Kept.{rest_kept}

module _ (octets : List ℕ) (begun middle : SourceSeen) (same : entry_end middle ≡ entry_end begun) (is_open : begun.is_open ≡ true) where
  -- the end of an entry is finished after its tokens, also if other calls took these
  pub ended : (end : Option EndOfEntry) (after : SourceSeen) → FinishesEntry middle (Ok end) after → (e : EndOfEntry) × IsAfterEntry octets begun (Ok e) after
  ended (Some e) after h =
      let kept = rest_kept begun middle same is_open in
      (e, (sym kept.1 ∙ h.1, h.2, h.3, h.4))
  ended None after h =
      let kept = rest_kept begun middle same is_open in
      absurd (false≢true (sym h.0 ∙ kept.0))

  pub cut_off : (fault : Fault) (last after : SourceSeen) → FinishesEntry middle (Err fault) last → StartsAfterLine octets fault.at after → IsAfterEntry octets begun (Err fault) after
  cut_off fault last after h behind =
      let kept = rest_kept begun middle same is_open in
      (sym kept.1 ∙ h.1, behind)

module _ (room : Room) (before after : RecordReader) (begun middle finished : SourceSeen) (old new : List ℕ) (first : Result (Option StartOfEntry) Fault) (start : StartOfEntry) (last : Result (Option EndOfEntry) Fault)
    (read : Result ParsedEntry RecordError) (begins : BeginsEntry before.source first begun) (is_start : first ≡ Ok (Some start))
    (reads : ReadsZoneEntry room start.begins_blank (entry_end begun).at (unread_entry_tokens begun) before.state old read after.state new) (same : entry_end middle ≡ entry_end begun)
    (finishes : FinishesEntry middle last finished) (octets_stay : after.octets.now ≡ before.octets.now) where
  opened : begun.is_open ≡ true
  opened = (subst (λ r. IsAtStart r begun) is_start begins.start).0

  next_with : (result : Option (Result ParsedEntry RecordError)) (end : Result EndOfEntry Fault) → IsAfterEntry before.octets.now begun end after.source → result ≡ Some (result_of_entry end read) → ReadsNextEntry room before old result after new
  next_with result end stands is = record {
    start = Ok (Some start);
    begun = begun;
    begins = subst (λ r. BeginsEntry before.source r begun) is_start begins;
    reads = (read, end, reads, stands, is);
    octets_stay = octets_stay;
  }

  pub next_read : (end : Option EndOfEntry) → last ≡ Ok end → finished ≡ after.source → ReadsNextEntry room before old (Some read) after new
  next_read end is stays =
      let e = ended before.octets.now begun middle same opened end after.source (subst (FinishesEntry middle (Ok end)) stays (subst (λ l. FinishesEntry middle l finished) is finishes)) in
      next_with (Some read) (Ok e.0) e.1 refl

  pub next_cut : (fault : Fault) → last ≡ Err fault → StartsAfterLine before.octets.now fault.at after.source → (e : RecordError) → e ≡ error_of_fault fault → ReadsNextEntry room before old (Some (Err e)) after new
  next_cut fault is behind e refused =
      next_with (Some (Err e)) (Err fault) (cut_off before.octets.now begun middle same opened fault finished after.source (subst (λ l. FinishesEntry middle l finished) is finishes) behind) (ap (λ r. Some (Err r)) refused)
