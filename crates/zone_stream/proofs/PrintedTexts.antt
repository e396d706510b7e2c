-- The records of a printed text are read one by one.
use Rattle.std.proofs.Common.{◌≡◌, ℕ, zero, suc, ◌+◌, ◌<◌, ◌≤◌, ◌^◌, false, List, [], ◌∷◌, ◌++◌, length, take, get_or, arith, refl, sym, ap, ◌∙◌, subst, append_assoc, append-nil, Some, Result, Ok, Err}
use Rattle.std.specs.Prelude.{map}
use Rattle.std.specs.List.{AllByRecursion}
use Rattle.std.proofs.lemmas.Grind.{flat_map-append}
use Rattle.dns_octets.specs.Room.{Room}
use Rattle.rdata_tokens.specs.NameSpelling.{IsOrigin}
use Rattle.dns_lexer.specs.EntryTokens.{IsSeen, TokenSeen}
use Rattle.rdata_fields.specs.Source.{next_place}
use Rattle.zone_reader.specs.Directives.{first_directive}
use Rattle.zone_reader.specs.EntryMeanings.{EntryMeaning, EntryMeans, says_record}
use Rattle.zone_reader.proofs.EntryLaws.{entries_say_once}
use Rattle.zone_record.specs.RecordLaws.{AreRecordValues, IsRecordReadBack}
use Rattle.zone_record.specs.Records.{data_of}
use Rattle.zone_record.specs.declared.record.Record.{Record}
use Rattle.zone_record.proofs.RecordBack.{owner_word, record_back}
use Rattle.rdata_fields.specs.declared.record_error.RecordError.{RecordError}
use Rattle.zone_reader.specs.EntryReading.{ReadsZoneEntry, minimum_of_record, minimum_of_ttl, declared_by_entry}
use Rattle.zone_reader.specs.Past.{Declared, NoneDeclared, known_name, no_origin_said, origin_declared}
use Rattle.zone_reader.specs.ReadingLaws.{IsWholeRecord, WholeRecordsAreIndependent}
use Rattle.zone_reader.specs.Records.{result_of_entry}
use Rattle.zone_reader.specs.TextEntries.{parts_of_entries, tokens_end}
use Rattle.zone_reader.specs.WholeTexts.{EntryAsRead, IsReadAfterEarlier, IsReadSoFar, TextsAreReadToTheEnd, all_declared, result_as_read}
use Rattle.zone_reader.specs.declared.entry.ParsedEntry.{ParsedEntry}
use Rattle.zone_reader.specs.declared.entry.ParsedEntry.TheVariants.{Empty, Directive, Include, Generate, Record as IsRecord}
use Rattle.zone_reader.specs.declared.state.State.{State}
use Rattle.zone_reader.specs.declared.ttl.RecordTtl.{RecordTtl}
use Rattle.zone_reader.specs.declared.ttl.RecordTtl.TheVariants.{Explicit, Default, Last, Minimum}
use Rattle.zone_reader.proofs.PastStates.{origin_once}
use Rattle.zone_reader.proofs.Pasts.{silent_both}
use Rattle.zone_reader.proofs.SplitTexts.{all_seen}
use Rattle.zone_stream.specs.PrintedTexts.{AreRecordsReturned, IsRecordReturned, IsTextOfRecordsRead, records_text}
use Rattle.zone_stream.proofs.PrintedEntries.{AreEntriesOf, IsEntryOf, IsShown, entries_of_text, text_splits}
use Rattle.zone_stream.proofs.ReadBack.{printed_read, says_whole}

-- ---- a record doesn't change the origin

quiet_ttl : (t : RecordTtl) → NoneDeclared origin_declared (minimum_of_ttl t)
quiet_ttl (Explicit ttl) = tt
quiet_ttl (Default ttl) = tt
quiet_ttl (Last ttl) = tt
quiet_ttl (Minimum ttl) = (refl, tt)

quiet_minimum : (read : Result ParsedEntry RecordError) → NoneDeclared origin_declared (minimum_of_record read)
quiet_minimum (Ok Empty) = tt
quiet_minimum (Ok Directive) = tt
quiet_minimum (Ok (Include at end file has_origin)) = tt
quiet_minimum (Ok (Generate at end)) = tt
quiet_minimum (Ok (IsRecord at data_at end ttl class rtype)) = quiet_ttl ttl
quiet_minimum (Err r) = tt

module _ (whole : WholeRecordsAreIndependent) (room : Room) (start : State) (known : IsOrigin (known_name start.origin)) {N O : Type 0} where
  module _ (r : Record N O) (shown : IsShown r) (past : List Declared) (quiet : NoneDeclared origin_declared past) (x : EntryAsRead) (own : IsEntryOf r x.entry) (b : IsReadAfterEarlier room start past x) where
    abbrev tokens : List TokenSeen
    tokens = x.entry.tokens

    abbrev end : ℕ
    end = tokens_end x.entry.tokens

    origin_is : IsOrigin (known_name b.state.origin)
    origin_is = subst (λ o. IsOrigin (known_name o)) (sym (origin_once start past b.state.origin start.origin b.knows.origin (no_origin_said past start.origin quiet refl))) known

    back : IsRecordReadBack r
    back origin tokens is small printed = record_back r origin tokens shown.0 is small printed

    says : IsWholeRecord end tokens r.owner r.ttl r.class (data_of r).rtype (data_of r).octets
    says = says_whole r shown.0 back owner_word end tokens shown.1 own.tokens

    reads : ReadsZoneEntry room false end tokens b.state x.old x.read x.after x.new
    reads = subst (λ k. ReadsZoneEntry room k end tokens b.state x.old x.read x.after x.new) own.blank b.reads

    abbrev meaning : EntryMeaning
    meaning = says_record (Some says.owner) (Ok (record { ttl = Some r.ttl; class = Some r.class; rtype = (data_of r).rtype })) says.behind

    quiet_then : NoneDeclared origin_declared x.said
    quiet_then =
        let own_says : EntryMeans x.entry.begins_blank end tokens meaning = subst (λ k. EntryMeans k end tokens meaning) (sym own.blank) says.says in
        let same : b.reads.meaning ≡ meaning = entries_say_once x.entry.begins_blank end tokens b.reads.meaning meaning b.reads.says own_says in
        let said : x.said ≡ declared_by_entry (first_directive x.entry.begins_blank tokens) meaning x.read = b.says ∙ ap (λ m. declared_by_entry (first_directive x.entry.begins_blank tokens) m x.read) same in
        subst (NoneDeclared origin_declared) (sym said) (refl, (refl, quiet_minimum x.read))

    is_given : length x.old + length (data_of r).octets ≤ room.fits → IsRecordReturned r (result_as_read x)
    is_given fits =
        let is = printed_read r shown.0 back owner_word whole room end tokens b.state x.after x.old x.new x.read shown.1 own.tokens origin_is fits reads in
        record {
          at = next_place tokens end;
          data_at = is.0;
          end = end;
          is = ap (λ e. result_of_entry e x.read) own.ends ∙ is.1;
          owner = is.2;
          «data» = is.3;
        }

  all_given : (records : List (Record N O)) (done rest : List EntryAsRead) → AllByRecursion IsShown records → AreEntriesOf records (map (λ (x : EntryAsRead). x.entry) rest) → NoneDeclared origin_declared (all_declared done)
      → ((before after : List EntryAsRead) (x : EntryAsRead) → done ++ rest ≡ before ++ (x ∷ after) → IsReadAfterEarlier room start (all_declared before) x) → AreRecordsReturned room records (map result_as_read rest)
  all_given [] done [] shown own quiet each = tt
  all_given [] done (x ∷ rest) shown own quiet each = absurd own
  all_given (r ∷ records) done [] shown own quiet each = absurd own
  all_given (r ∷ records) done (x ∷ rest) shown own quiet each =
      let b = each done rest x refl in
      let said : all_declared (done ++ x ∷ []) ≡ all_declared done ++ x.said = flat_map-append (λ (y : EntryAsRead). y.said) done (x ∷ []) ∙ ap (λ l. all_declared done ++ l) (append-nil x.said) in
      let quiet_now = subst (NoneDeclared origin_declared) (sym said) (silent_both origin_declared (all_declared done) x.said quiet (quiet_then r shown.0 (all_declared done) quiet x own.0 b)) in
      (is_given r shown.0 (all_declared done) quiet x own.0 b, all_given records (done ++ x ∷ []) rest shown.1 own.1 quiet_now (λ before after y is. each before after y (sym (append_assoc done (x ∷ []) rest) ∙ is)))

module _ {N O : Type 0} (records : List (Record N O)) (values : AllByRecursion AreRecordValues records) where
  all_shown : (rs : List (Record N O)) → AllByRecursion AreRecordValues rs → AllByRecursion (λ r. r.ttl < 2 ^ 31) rs → AllByRecursion IsShown rs
  all_shown [] h k = tt
  all_shown (r ∷ rs) h k = ((h.0, k.0), all_shown rs h.1 k.1)

  pub text_is_read : WholeRecordsAreIndependent → TextsAreReadToTheEnd → IsTextOfRecordsRead records
  text_is_read whole to_the_end room kind start first last after given old new small known begins row none =
      let shown = all_shown records values small in
      let text : List ℕ = records_text kind records in
      let read : IsReadSoFar room text start given [] = to_the_end room text start first last after given old new begins row none in
      let seen : IsSeen text (parts_of_entries read.entries) = all_seen text begins.are_octets _ (text_splits kind records shown) (parts_of_entries read.entries) read.seen in
      let own = subst (AreEntriesOf records) (sym read.are_entries) (entries_of_text kind records read.entries shown begins.are_octets seen) in
      subst (AreRecordsReturned room records) read.are_given (all_given whole room start known records [] read.read shown own tt read.each)

-- ---- one more of a list

pub all_next : {X : Type 0} (P : X → Type 0) (xs : List X) (i : ℕ) (x : X) → i < length xs → x ≡ get_or xs i x → AllByRecursion P (take i xs) → P x → AllByRecursion P (take (i + 1) xs)
all_next P [] i x lt at h k = absurd (omega (arith, lt))
all_next P (y ∷ ys) zero x lt at h k = (subst P at k, tt)
all_next P (y ∷ ys) (suc i) x lt at h k =
    let next : suc i + 1 ≡ suc (i + 1) = omega arith in
    subst (λ n. AllByRecursion P (take n (y ∷ ys))) (sym next) (h.0, all_next P ys i x (omega (arith, lt)) at h.1 k)
