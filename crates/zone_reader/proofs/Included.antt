-- What a file to include appends.
use Rattle.std.proofs.Common.{ℕ, ◌≡◌, Bool, List, ◌++◌, drop, length, Option, Some, None, Result, Ok, Err, refl, sym, subst, ap}
use Rattle.std.specs.Prelude.{is_some}
use Rattle.dns_octets.specs.Room.{Room}
use Rattle.dns_lexer.specs.declared.pieces.Fault.{Fault}
use Rattle.dns_lexer.specs.EntryTokens.{TokenSeen}
use Rattle.zone_reader.specs.EntryMeanings.{EntryMeaning, says_nothing, says_origin, says_default_ttl, says_include, says_generate, says_record, says_refused}
use Rattle.zone_reader.specs.declared.header.RecordHeader.{RecordHeader}
use Rattle.rdata_fields.specs.Source.{next_place}
use Rattle.rdata_fields.specs.declared.record_error.RecordError.{RecordError}
use Rattle.zone_reader.specs.EntryReading.{IncludesOrigin, ReadsInclude, ReadsMeaning, directive_with, origin_octets, record_with}
use Rattle.zone_reader.specs.Included.{FilesAreAppended, OriginAppended, IsIncluded}
use Rattle.zone_reader.specs.Past.{known_name}
use Rattle.zone_reader.specs.Records.{ReadsBegun}
use Rattle.zone_reader.specs.Source.{entry_end, unread_entry_tokens}
use Rattle.zone_reader.specs.declared.entry.ParsedEntry.TheVariants.{Include}
use Rattle.zone_reader.specs.declared.known.NameState.{NameState}
use Rattle.zone_reader.specs.declared.source.StartOfEntry.{StartOfEntry}
use Rattle.zone_reader.specs.declared.state.State.{State}
use Rattle.zone_reader.specs.declared.ttl.RecordTtl.{RecordTtl}
use Rattle.zone_reader.proofs.NextRecords.{not_words, read_of}

origin_said : (origin : Option (List (List ℕ))) (token : Option TokenSeen) (named : Option (List (List ℕ))) → IncludesOrigin origin token named
    → (o : Option (List (List ℕ))) × OriginAppended o (is_some named) (origin_octets named)
origin_said origin None named h = (None, record { has = ap is_some h; octets_are = ap origin_octets h; absolute = tt })
origin_said origin (Some t) None h = absurd h
origin_said origin (Some t) (Some labels) h = let name = h.1 in (Some name.labels, record { has = refl; octets_are = name.whole; absolute = (name.is_name, name.absolute) })

abbrev Appends : List ℕ → ℕ → Bool → List ℕ → Type 0
Appends old file has_origin new = (octets : List ℕ) × (new ≡ old ++ octets) × IsIncluded file has_origin octets

module _ (old new : List ℕ) (at end file : ℕ) (has_origin : Bool) where
  file_read : (origin : Option (List (List ℕ))) (room : Room) (begin after place : ℕ) (name : List ℕ) (token : Option TokenSeen) → ReadsInclude origin room begin after place name token old (Ok (Include at end file has_origin)) new → Appends old file has_origin new
  file_read origin room begin after place name token h =
      let is = h.1 in
      let count : file ≡ length name = cc in
      let has : has_origin ≡ is_some h.0 = cc in
      let o = origin_said origin token h.0 h.2 in (
        name ++ origin_octets h.0,
        h.3,
        record {
          name = name;
          origin = o.0;
          behind = origin_octets h.0;
          count = count;
          both = refl;
          said = subst (λ b. OriginAppended o.0 b (origin_octets h.0)) (sym has) o.1;
        },
      )

  no_directive : (r : Result ℕ RecordError) → Ok (Include at end file has_origin) ≡ directive_with r → ⊥
  no_directive (Ok ttl) h = cc
  no_directive (Err r) h = cc

  no_record : (before : State) (place data_at after : ℕ) (w : RecordHeader) (ttl : Option RecordTtl) → record_with before place data_at after w ttl ≡ Ok (Include at end file has_origin) → ⊥
  no_record before place data_at after w None h = cc
  no_record before place data_at after w (Some ttl) h = cc

  meaning_read : (before : State) (room : Room) (last : ℕ) (tokens : List TokenSeen) (m : EntryMeaning) (owner : NameState) → ReadsMeaning before room last tokens m old (Ok (Include at end file has_origin)) owner new → Appends old file has_origin new
  meaning_read before room last tokens says_nothing owner h = let no = h.0 in cc
  meaning_read before room last tokens (says_origin t) owner h = let no = h.0.0 in cc
  meaning_read before room last tokens (says_default_ttl r) owner h = absurd (no_directive r h.0)
  meaning_read before room last tokens (says_include name token) owner h = file_read (known_name before.origin) room (next_place tokens last) last (next_place (drop 1 tokens) last) name token h
  meaning_read before room last tokens says_generate owner h = let no = h.0 in cc
  meaning_read before room last tokens (says_record token words left) owner h = absurd (not_words before room _ last old new (Include at end file has_origin) (no_record before _) h.0 words left h.2)
  meaning_read before room last tokens (says_refused r) owner h = cc

pub files_are_appended : FilesAreAppended
files_are_appended room before after old new at end file has_origin h = go h.start h.reads
  where
    go : (start : Result (Option StartOfEntry) Fault) → ReadsBegun room before.octets.now h.begun start before.state old (Some (Ok (Include at end file has_origin))) after new → Appends old file has_origin new
    go (Ok (Some start)) r =
        let is = read_of r.1 r.0 (Include at end file has_origin) (sym r.4) in
        let last : ℕ = (entry_end h.begun).at in
        let tokens : List TokenSeen = unread_entry_tokens h.begun in
        meaning_read old new at end file has_origin before.state room last tokens r.2.meaning after.state.owner
        (subst (λ x. ReadsMeaning before.state room last tokens r.2.meaning old x after.state.owner new) is.2 r.2.reads)
    go (Ok None) r = let no = r.0 in cc
    go (Err fault) r = let no = r.0 in cc
