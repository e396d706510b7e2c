-- A record that is read without the owner before it has its own, and is read alike with any owner before it.
use Rattle.std.proofs.Common.{ℕ, ◌≡◌, ◌≤◌, Bool, List, [], ◌∷◌, length, refl, sym, subst, ◌∙◌, inl, inr, Option, Some, None, Result, Ok, Err}
use Rattle.dns_octets.specs.Room.{Room, exactly}
use Rattle.dns_lexer.specs.EntryTokens.{TokenSeen}
use Rattle.dns_lexer.specs.declared.pieces.EndOfEntry.{EndOfEntry}
use Rattle.dns_lexer.specs.declared.pieces.Fault.{Fault as TextFault}
use Rattle.rdata_fields.specs.Source.{next_place}
use Rattle.rdata_fields.specs.declared.record_error.RecordError.{RecordError}
use Rattle.rdata_values.specs.declared.classes.Class.{Class}
use Rattle.rdata_values.specs.declared.types.RecordType.{RecordType}
use Rattle.zone_reader.specs.Directives.{first_directive}
use Rattle.zone_reader.specs.EntryMeanings.{EntryMeaning, says_nothing, says_origin, says_default_ttl, says_include, says_generate, says_record, says_refused}
use Rattle.zone_reader.specs.EntryReading.{ReadsAfterHeader, ReadsDataAfterHeader, ReadsMeaning, ReadsOwner, ReadsZoneEntry, declared_by_entry}
use Rattle.zone_reader.specs.Learning.{Updates}
use Rattle.zone_reader.specs.Line.{ReadsLine}
use Rattle.zone_reader.specs.Past.{Declared, IsOriginAfter, IsOwnerAfter, NewOwner, no_origin_said, no_owner_said, origin_said_last, owner_said_last}
use Rattle.zone_reader.specs.Records.{IsAfterEntry, ReadsBegun, ReadsNextEntry, result_of_entry}
use Rattle.zone_reader.specs.Source.{SourceSeen, entry_end, unread_entry_tokens}
use Rattle.zone_reader.specs.declared.entry.ParsedEntry.{ParsedEntry}
use Rattle.zone_reader.specs.declared.entry.ParsedEntry.TheVariants.{Empty, Directive, Include, Generate, Record as RecordRead}
use Rattle.zone_reader.specs.declared.header.HeaderError.{HeaderError}
use Rattle.zone_reader.specs.declared.header.RecordHeader.{RecordHeader}
use Rattle.zone_reader.specs.declared.known.NameState.{NameState}
use Rattle.zone_reader.specs.declared.known.NameState.TheVariants.{Name, Unset}
use Rattle.zone_reader.specs.declared.line.LineRead.{LineRead}
use Rattle.zone_reader.specs.declared.records.RecordReader.{RecordReader}
use Rattle.zone_reader.specs.declared.source.StartOfEntry.{StartOfEntry}
use Rattle.zone_reader.specs.declared.state.State.{State}
use Rattle.zone_reader.specs.declared.ttl.RecordTtl.{RecordTtl}
use Rattle.zone_reader.proofs.PastStates.{known_on, starts}
use Rattle.c_calls.specs.Kept.{HoldsForLine}
use Rattle.c_calls.specs.Records.{IsHeadOfLine, NextRecord, RecordCall, ReportsLine, head_in}
use Rattle.c_calls.specs.declared.records.RecordNumbers.{RecordNumbers}
use Rattle.c_calls.proofs.LinesTold.{line_told}

module _ (before : State) (unset : before.owner ≡ Unset) (owner : NameState) where
  abbrev with_owner : State
  with_owner = record before { owner = owner }

  -- ---- what later entries inherit

  origin_so : (past : List Declared) (o : NameState) → IsOriginAfter before past o → IsOriginAfter with_owner past o
  origin_so past o (no_origin_said p q quiet is) = no_origin_said past o quiet is
  origin_so past o (origin_said_last p q token last old was named) = origin_said_last past o token last old (origin_so last.before old was) named

  owner_so : (token : Option TokenSeen) (past : List Declared) (o : NameState) → IsOwnerAfter before (NewOwner token ∷ past) o → IsOwnerAfter with_owner (NewOwner token ∷ past) o
  owner_so token past o (no_owner_said quiet is) = let no = quiet.0 in cc
  owner_so token past o (owner_said_last t last old was named) = owner_said_last t last old (origin_so last.before old was) named

  learns_so : (token : Option TokenSeen) (past : List Declared) (after : State) → Updates (NewOwner token ∷ past) before after → Updates (NewOwner token ∷ past) with_owner after
  learns_so token past after u start gone known =
      let h = u before [] (starts before) in
      known_on start with_owner gone known (NewOwner token ∷ past) after (record {
        origin = origin_so (NewOwner token ∷ past) after.origin h.origin;
        owner = owner_so token past after.owner h.owner;
        default_ttl = h.default_ttl;
        last_ttl = h.last_ttl;
        class = h.class;
      })

  -- ---- the entry

  module _ (room : Room) (old new : List ℕ) (at data_at last : ℕ) (ttl : RecordTtl) (class : Class) (rtype : RecordType) where
    abbrev result : Result ParsedEntry RecordError
    result = Ok (RecordRead at data_at last ttl class rtype)

    data_so : (a d end : ℕ) (w : RecordHeader) (r : Result (Unit {0}) RecordError) → ReadsDataAfterHeader before a d end w old r new result → ReadsDataAfterHeader with_owner a d end w old r new result
    data_so a d end w (Ok u) h = h
    data_so a d end w (Err e) h = h

    after_so : (a end : ℕ) (first : Result (Unit {0}) RecordError) (words : Result RecordHeader HeaderError) (left : List TokenSeen) → ReadsAfterHeader before room a end first words left old result new
        → ReadsAfterHeader with_owner room a end first words left old result new
    after_so a end (Err e) words left h = h
    after_so a end (Ok u) (Err e) left h = h
    after_so a end (Ok u) (Ok w) left h = (h.0, h.1, h.2, data_so a (next_place left end) end w h.0 h.3)

    named_so : (a : ℕ) (t : TokenSeen) (first : Result (Unit {0}) RecordError) (known : NameState) → ReadsOwner before a (Some t) first known → ReadsOwner with_owner a (Some t) first known
    named_so a t (Ok u) known h = h
    named_so a t (Err e) known h = h

    none_read : (a end : ℕ) (first : Result (Unit {0}) RecordError) (known : NameState) (words : Result RecordHeader HeaderError) (left : List TokenSeen) → ReadsOwner before a None first known
        → ReadsAfterHeader before room a end first words left old result new → ⊥
    none_read a end (Ok u) known words left o h = let no : Unset ≡ Name o.1.0 = sym unset ∙ sym o.0 ∙ o.1.1 in cc
    none_read a end (Err e) known words left o h = let no = h.0 in cc

    module _ (blank : Bool) (end : ℕ) (tokens : List TokenSeen) (after : State) where
      abbrev said : EntryMeaning → List Declared
      said m = declared_by_entry (first_directive blank tokens) m result

      meaning_so : (m : EntryMeaning) → ReadsMeaning before room end tokens m old result after.owner new → Updates (said m) before after
          → ReadsMeaning with_owner room end tokens m old result after.owner new × Updates (said m) with_owner after
      meaning_so says_nothing h u = let no = h.0 in cc
      meaning_so (says_origin t) h u = let no = h.0.0 in cc
      meaning_so (says_default_ttl (Ok n)) h u = let no = h.0 in cc
      meaning_so (says_default_ttl (Err e)) h u = let no = h.0 in cc
      meaning_so (says_include file token) h u = let no = h.1 in cc
      meaning_so says_generate h u = let no = h.0 in cc
      meaning_so (says_record None words left) h u = absurd (none_read (next_place tokens end) end h.0 after.owner words left h.1 h.2)
      meaning_so (says_record (Some t) words left) h u = ((h.0, named_so (next_place tokens end) t h.0 after.owner h.1, after_so (next_place tokens end) end h.0 words left h.2), learns_so (Some t) _ after u)
      meaning_so (says_refused e) h u = cc

      entry_so : ReadsZoneEntry room blank end tokens before old result after new → ReadsZoneEntry room blank end tokens with_owner old result after new
      entry_so h =
          let so = meaning_so h.meaning h.reads h.learns in
          record { meaning = h.meaning; says = h.says; reads = so.0; extends = h.extends; learns = so.1 }

    begun_so : (octets : List ℕ) (begun : SourceSeen) (start : Result (Option StartOfEntry) TextFault) (after : RecordReader) → ReadsBegun room octets begun start before old (Some result) after new
        → ReadsBegun room octets begun start with_owner old (Some result) after new
    begun_so octets begun (Ok None) after h = let no = h.0 in cc
    begun_so octets begun (Err f) after h = let no = h.0 in cc
    begun_so octets begun (Ok (Some start)) after h = by h.0 h.1 h.2 h.3 h.4
      where
        by : (read : Result ParsedEntry RecordError) (end : Result EndOfEntry TextFault) → ReadsZoneEntry room start.begins_blank (entry_end begun).at (unread_entry_tokens begun) before old read after.state new
            → IsAfterEntry octets begun end after.source → Some result ≡ Some (result_of_entry end read) → ReadsBegun room octets begun (Ok (Some start)) with_owner old (Some result) after new
        by read (Err f) z stands is = cc
        by read (Ok e) z stands is =
            let same : read ≡ result = cc is in (
              result,
              Ok e,
              entry_so start.begins_blank (entry_end begun).at (unread_entry_tokens begun) after.state
                  (subst (λ r. ReadsZoneEntry room start.begins_blank (entry_end begun).at (unread_entry_tokens begun) before old r after.state new) same z),
              stands,
              refl,
            )

    line_so : (text : List ℕ) (place : ℕ) (line : LineRead) (after : State) → line.read ≡ result → ReadsLine room text place before old line after new → ReadsLine room text place with_owner old line after new
    line_so text place line after is r =
        let next : ReadsNextEntry room r.reader old (Some result) r.next new = subst (λ x. ReadsNextEntry room r.reader old (Some x) r.next new) is r.reads in
        let begun : ReadsBegun room r.reader.octets.now next.begun next.start before old (Some result) r.next new =
        subst (λ s. ReadsBegun room r.reader.octets.now next.begun next.start s old (Some result) r.next new) r.starts.state_is next.reads in
        let reads : ReadsNextEntry room (record r.reader { state = with_owner }) old (Some result) r.next new = record {
          start = next.start;
          begun = next.begun;
          begins = next.begins;
          reads = begun_so r.reader.octets.now next.begun next.start r.next begun;
          octets_stay = next.octets_stay;
        } in
        record {
          reader = record r.reader { state = with_owner };
          starts = record {
            octets_is = r.starts.octets_is;
            parts = r.starts.parts;
            closed = r.starts.closed;
            began = r.starts.began;
            taken = r.starts.taken;
            state_is = refl;
          };
          next = r.next;
          reads = subst (λ x. ReadsNextEntry room (record r.reader { state = with_owner }) old (Some x) r.next new) (sym is) reads;
          state_is = r.state_is;
          ends = r.ends;
        }

  -- a line that is a record
  owned : (head : RecordNumbers) (read : ParsedEntry) (text : List ℕ) (place : ℕ) (line : LineRead) (after : State) (new : List ℕ) → line.read ≡ Ok read → head_in read ≡ Some head
      → ReadsLine (exactly 512) text place before [] line after new → ReadsLine (exactly 512) text place with_owner [] line after new
  owned head (RecordRead at data_at last ttl class rtype) text place line after new is numbers r = line_so (exactly 512) [] new at data_at last ttl class rtype text place line after is r
  owned head (Include at end file has_origin) text place line after new is numbers r = cc
  owned head (Generate at end) text place line after new is numbers r = cc
  owned head Empty text place line after new is numbers r = cc
  owned head Directive text place line after new is numbers r = cc

-- the line is the next record of the zone
pub line_next : (head : RecordNumbers) (text : List ℕ) (state after : State) (line : LineRead) (octets : List ℕ) (call : RecordCall) → HoldsForLine call.before.zone state → call.before.zone.at ≤ length text → IsHeadOfLine head line
    → ReadsLine (exactly 512) text call.before.zone.at state [] line after octets → ReportsLine after line.end octets head call → NextRecord text call
line_next head text state after line octets call (inl holds) within is reads tells = inr (state, holds, within, line_told head text state after line octets call is reads tells)
line_next head text state after line octets call (inr (unset, some)) within is reads tells =
    inr (
      record state { owner = some.0 },
      some.1,
      within,
      line_told head text (record state { owner = some.0 }) after line octets call is (owned state unset some.0 head is.0 text call.before.zone.at line after octets is.1 is.2 reads) tells,
    )
