-- No entry is rejected with the kind `Syntax`, so a syntax error of the text is known by its kind.
use Rattle.std.proofs.Common.{ℕ, ◌≡◌, Bool, true, false, List, [], ◌∷◌, Option, None, Some, Result, Ok, Err, refl, sym, subst, ap, ◌∙◌, inl, inr}
use Rattle.std.specs.Prelude.{⊤, ◌==◌, if◌then◌else◌, is_none}
use Rattle.dns_octets.specs.Lowered.{lowered}
use Rattle.dns_octets.specs.Room.{Room, exactly}
use Rattle.rdata_tokens.specs.PrintedNames.{dollar}
use Rattle.dns_lexer.specs.EntryTokens.{TokenSeen}
use Rattle.dns_lexer.specs.declared.pieces.EndOfEntry.{EndOfEntry}
use Rattle.dns_lexer.specs.declared.pieces.Fault.{Fault}
use Rattle.dns_lexer.specs.declared.pieces.Wrong.{Wrong}
use Rattle.dns_wire.specs.Limits.{max_name}
use Rattle.rdata_values.specs.declared.error.ErrorKind.{ErrorKind}
use Rattle.rdata_values.specs.declared.error.ErrorKind.TheVariants.{ExpectedTtl, NoTtl, Quoted, ShortBuf, Syntax, TrailingArgument, UnknownDirective, UnknownType}
use Rattle.rdata_fields.specs.RecordErrors.{error_at, error_of_fault}
use Rattle.rdata_fields.specs.Source.{next_place}
use Rattle.rdata_fields.specs.Parsing.{RefusesNext}
use Rattle.rdata_fields.specs.declared.field.Field.TheVariants.{Name as OfName}
use Rattle.rdata_fields.specs.declared.record_error.RecordError.{RecordError}
use Rattle.rdata.specs.ByType.{ReadsType}
use Rattle.zone_reader.specs.Arguments.{ParsesDefaultTtl, ExpectsEnd, WhyNoTtl}
use Rattle.zone_reader.specs.Directives.{directive_in, directive_named, directive_of, directive_of_word}
use Rattle.zone_reader.specs.EntryMeanings.{DirectiveMeans, EntryMeaning, EntryMeans, FirstTokenMeans, RecordMeans, says_nothing, says_origin, says_default_ttl, says_include, says_generate, says_record, says_refused}
use Rattle.zone_reader.specs.Headers.{ParsesHeader, WhyNoType}
use Rattle.zone_reader.specs.declared.directive.Directive.{Directive}
use Rattle.zone_reader.specs.declared.directive.Directive.TheVariants.{Origin, Ttl, Include as OfInclude, Generate as OfGenerate}
use Rattle.zone_reader.specs.declared.header.RecordHeader.{RecordHeader}
use Rattle.zone_reader.specs.declared.header.HeaderError.{HeaderError}
use Rattle.zone_reader.specs.EntryReading.{NamesOrRefuses, ReadsDataAfterHeader, ReadsMeaning, ReadsOwner, ReadsAfterHeader, ReadsZoneEntry, RefusesOrigin, directive_with, record_with}
use Rattle.zone_reader.specs.Faults.{EntriesHaveNoFaults, FaultsAreReported}
use Rattle.zone_reader.specs.Learning.{WhyNoOwner}
use Rattle.zone_reader.specs.Past.{known_name}
use Rattle.zone_reader.specs.Records.{ReadsBegun, IsAfterEntry, result_of_entry}
use Rattle.zone_reader.specs.Source.{SourceSeen, StartsAfterLine, entry_end, unread_entry_tokens}
use Rattle.zone_reader.specs.declared.entry.ParsedEntry.{ParsedEntry}
use Rattle.zone_reader.specs.declared.known.NameState.{NameState}
use Rattle.zone_reader.specs.declared.records.RecordReader.{RecordReader}
use Rattle.zone_reader.specs.declared.known.NameState.TheVariants.{Unset, Name, Rejected}
use Rattle.zone_reader.specs.declared.source.StartOfEntry.{StartOfEntry}
use Rattle.zone_reader.specs.declared.state.State.{State}
use Rattle.zone_reader.specs.declared.ttl.RecordTtl.{RecordTtl}
use Rattle.zone_reader.proofs.DataQuiet.{next_quiet, other_kind, type_refused}

module _ (w : Wrong) where
  -- ---- directives

  named_kind : (a b c d : Bool) → (if a then Ok Origin else (if b then Ok Ttl else (if c then Ok OfInclude else (if d then Ok OfGenerate else Err UnknownDirective)))) ≡ Err (Syntax w) → ⊥
  named_kind true b c d h = cc
  named_kind false true c d h = cc
  named_kind false false true d h = cc
  named_kind false false false true h = cc
  named_kind false false false false h = cc

  named_quiet : (small : List ℕ) → directive_named small ≡ Err (Syntax w) → ⊥
  named_quiet small h = named_kind _ _ _ _ h

  word_quiet : (text : List ℕ) → directive_of_word text ≡ Some (Err (Syntax w)) → ⊥
  word_quiet [] h = cc
  word_quiet (c ∷ cs) h = go (c == dollar) h
    where
      go : (b : Bool) → (if b then Some (directive_in (c ∷ cs)) else None) ≡ Some (Err (Syntax w)) → ⊥
      go true e = let same : directive_in (c ∷ cs) ≡ Err (Syntax w) = cc in named_quiet (lowered (c ∷ cs)) same
      go false e = cc

  directive_quiet : (t : TokenSeen) → directive_of t ≡ Some (Err (Syntax w)) → ⊥
  directive_quiet t h = go t.is_quoted h
    where
      go : (b : Bool) → (if b then None else directive_of_word t.text) ≡ Some (Err (Syntax w)) → ⊥
      go true e = cc
      go false e = word_quiet t.text e

  ttl_kind : (quoted : Bool) → Syntax w ≡ (if quoted then Quoted else ExpectedTtl) → ⊥
  ttl_kind true h = cc
  ttl_kind false h = cc

  ttl_quiet : (tokens : List TokenSeen) → WhyNoTtl tokens (Syntax w) → ⊥
  ttl_quiet [] h = cc
  ttl_quiet (t ∷ ts) h = ttl_kind t.is_quoted h.0

  end_refused : (e : RecordError) (tokens left : List TokenSeen) → ExpectsEnd tokens (Err e) left → e.kind ≡ Syntax w → ⊥
  end_refused e [] left h is = h
  end_refused e (t ∷ ts) left h is = let other = other_kind w e TrailingArgument (ap (λ x. x.kind) h.1) is in cc

  default_refused : (e : RecordError) (end : ℕ) (tokens left : List TokenSeen) → ParsesDefaultTtl end tokens (Err e) left → e.kind ≡ Syntax w → ⊥
  default_refused e end tokens left (inl h) is = ttl_quiet tokens (subst (WhyNoTtl tokens) is h.2)
  default_refused e end tokens left (inr (ttl, takes, h)) is = end_refused e left left h is

  -- ---- the TTL, class and type

  type_kind : (quoted digit : Bool) → Syntax w ≡ (if quoted then Quoted else (if digit then ExpectedTtl else UnknownType)) → ⊥
  type_kind true digit h = cc
  type_kind false true h = cc
  type_kind false false h = cc

  type_quiet : (may_be_ttl : Bool) (tokens : List TokenSeen) → WhyNoType may_be_ttl tokens (Syntax w) → ⊥
  type_quiet may_be_ttl [] h = cc
  type_quiet may_be_ttl (t ∷ ts) h = type_kind t.is_quoted _ h.0

  words_refused : (r : HeaderError) (end : ℕ) (tokens left : List TokenSeen) → ParsesHeader end tokens (Err r) left → r.error.kind ≡ Syntax w → ⊥
  words_refused r end tokens left h is = type_quiet (is_none r.ttl) left (subst (WhyNoType (is_none r.ttl) left) is h.2)

  -- ---- what the tokens mean

  abbrev Sound : ℕ → EntryMeaning → Type 0
  Sound end says_nothing = ⊤
  Sound end (says_origin t) = ⊤
  Sound end (says_default_ttl r) = (tokens : List TokenSeen) × (left : List TokenSeen) × ParsesDefaultTtl end tokens r left
  Sound end (says_include file token) = ⊤
  Sound end says_generate = ⊤
  Sound end (says_record token words left) = (tokens : List TokenSeen) × ParsesHeader end tokens words left
  Sound end (says_refused e) = e.kind ≡ Syntax w → ⊥

  directive_sound : (d : Directive) (end : ℕ) (tokens : List TokenSeen) (m : EntryMeaning) → DirectiveMeans d end tokens m → Sound end m
  directive_sound Origin end [] m h = subst (Sound end) (sym h) (λ e. cc)
  directive_sound Origin end (t ∷ []) m h = subst (Sound end) (sym h) tt
  directive_sound Origin end (t ∷ u ∷ ts) m h = subst (Sound end) (sym h) (λ e. cc)
  directive_sound Ttl end tokens m h = subst (Sound end) (sym h.3) (tokens, h.1, h.2)
  directive_sound OfInclude end [] m h = subst (Sound end) (sym h) (λ e. cc)
  directive_sound OfInclude end (t ∷ []) m h = subst (Sound end) (sym h) tt
  directive_sound OfInclude end (t ∷ u ∷ []) m h = subst (Sound end) (sym h) tt
  directive_sound OfInclude end (t ∷ u ∷ v ∷ ts) m h = subst (Sound end) (sym h) (λ e. cc)
  directive_sound OfGenerate end tokens m h = subst (Sound end) (sym h) tt

  record_sound : (owner : Option TokenSeen) (end : ℕ) (tokens : List TokenSeen) (m : EntryMeaning) → RecordMeans owner end tokens m → Sound end m
  record_sound owner end tokens m h = subst (Sound end) (sym h.3) (tokens, h.2)

  first_sound : (d : Option (Result Directive ErrorKind)) (end : ℕ) (t : TokenSeen) (ts : List TokenSeen) (m : EntryMeaning) → directive_of t ≡ d → FirstTokenMeans d end t ts m → Sound end m
  first_sound None end t ts m is h = record_sound (Some t) end ts m h
  first_sound (Some (Ok d)) end t ts m is h = directive_sound d end ts m h
  first_sound (Some (Err why)) end t ts m is h = subst (Sound end) (sym h) (λ fault. directive_quiet t (is ∙ ap (λ k. Some (Err k)) fault))

  sound : (blank : Bool) (end : ℕ) (tokens : List TokenSeen) (m : EntryMeaning) → EntryMeans blank end tokens m → Sound end m
  sound blank end [] m h = subst (Sound end) (sym h) tt
  sound true end (t ∷ ts) m h = record_sound None end (t ∷ ts) m h
  sound false end (t ∷ ts) m h = first_sound (directive_of t) end t ts m refl h

  -- ---- what is read of them

  name_refused : (origin : Option (List (List ℕ))) (t : TokenSeen) (e : RecordError) → NamesOrRefuses origin t (Err e) → e.kind ≡ Syntax w → ⊥
  name_refused origin t e h is = next_quiet w origin (exactly max_name) OfName (t ∷ []) [] (subst (RefusesNext origin (exactly max_name) OfName (t ∷ []) []) is h.1)

  default_read : (r : Result ℕ RecordError) (e : RecordError) (end : ℕ) (tokens left : List TokenSeen) → ParsesDefaultTtl end tokens r left → Err e ≡ directive_with r → e.kind ≡ Syntax w → ⊥
  default_read (Ok ttl) e end tokens left h is fault = cc
  default_read (Err x) e end tokens left h is fault = let same : x ≡ e = cc in default_refused x end tokens left h (ap (λ r. r.kind) same ∙ fault)

  origin_refused : (origin : Option (List (List ℕ))) (token : Option TokenSeen) (e : RecordError) → RefusesOrigin origin token e → e.kind ≡ Syntax w → ⊥
  origin_refused origin None e h is = h
  origin_refused origin (Some t) e h is = name_refused origin t e h is

  no_owner_quiet : (known : NameState) → WhyNoOwner known (Syntax w) → ⊥
  no_owner_quiet Unset h = cc
  no_owner_quiet (Name labels) h = h
  no_owner_quiet Rejected h = cc

  module _ (before : State) (room : Room) (at end : ℕ) (old new : List ℕ) (e : RecordError) (is : e.kind ≡ Syntax w) where
    owner_refused : (token : Option TokenSeen) (x : RecordError) (known : NameState) → ReadsOwner before at token (Err x) known → x.kind ≡ Syntax w → ⊥
    owner_refused None x known h fault = no_owner_quiet known (subst (WhyNoOwner known) fault h.2)
    owner_refused (Some t) x known h fault = name_refused (known_name before.origin) t x h.1 fault

    without_ttl : (data_at : ℕ) (words : RecordHeader) (ttl : Option RecordTtl) → Err e ≡ record_with before at data_at end words ttl → ⊥
    without_ttl data_at words None h = let same : e ≡ error_at at NoTtl = cc in let other = other_kind w e NoTtl (ap (λ x. x.kind) same) is in cc
    without_ttl data_at words (Some ttl) h = cc

    behind_refused : (data_at : ℕ) (words : RecordHeader) (r : Result (Unit {0}) RecordError) (tokens left : List TokenSeen) → ReadsType (known_name before.origin) room words.rtype end tokens old r left new → ReadsDataAfterHeader before at data_at end words old r new (Err e) → ⊥
    behind_refused data_at words (Err x) tokens left h k = let same : e ≡ x = cc in type_refused w (known_name before.origin) room words.rtype end tokens left old new x h (sym (ap (λ r. r.kind) same) ∙ is)
    behind_refused data_at words (Ok u) tokens left h k = without_ttl data_at words _ k.2.2

    words_read : (token : Option TokenSeen) (known : NameState) (first : Result (Unit {0}) RecordError) (words : Result RecordHeader HeaderError) (taken left : List TokenSeen) → ReadsOwner before at token first known → ParsesHeader end taken words left
        → ReadsAfterHeader before room at end first words left old (Err e) new → ⊥
    words_read token known (Err x) words taken left o t h = let same : e ≡ x = cc in owner_refused token x known o (sym (ap (λ r. r.kind) same) ∙ is)
    words_read token known (Ok u) (Err r) taken left o t h = let same : e ≡ r.error = cc in words_refused r end taken left t (sym (ap (λ x. x.kind) same) ∙ is)
    words_read token known (Ok u) (Ok words) taken left o t h = behind_refused (next_place left end) words h.0 left h.1 h.2 h.3

  meaning_refused : (before : State) (room : Room) (end : ℕ) (tokens : List TokenSeen) (m : EntryMeaning) (old new : List ℕ) (e : RecordError) (owner : NameState) → e.kind ≡ Syntax w → Sound end m
      → ReadsMeaning before room end tokens m old (Err e) owner new → ⊥
  meaning_refused before room end tokens says_nothing old new e owner is s h = let none = h.0 in cc
  meaning_refused before room end tokens (says_origin t) old new e owner is s h = name_refused (known_name before.origin) t e h.0 is
  meaning_refused before room end tokens (says_default_ttl r) old new e owner is s h = default_read r e end s.0 s.1 s.2 h.0 is
  meaning_refused before room end tokens (says_include file token) old new e owner is s (inl h) = origin_refused (known_name before.origin) token e h is
  meaning_refused before room end tokens (says_include file token) old new e owner is s (inr h) = let other = other_kind w e ShortBuf (ap (λ x. x.kind) h.2) is in cc
  meaning_refused before room end tokens says_generate old new e owner is s h = let none = h.0 in cc
  meaning_refused before room end tokens (says_record token words left) old new e owner is s h = words_read before room (next_place tokens end) end old new e is token owner h.0 words s.0 left h.1 s.1 h.2
  meaning_refused before room end tokens (says_refused x) old new e owner is s h = let same : e ≡ x = cc in s (sym (ap (λ r. r.kind) same) ∙ is)

pub entries_have_no_faults : EntriesHaveNoFaults
entries_have_no_faults room blank end tokens before after old new e wrong h is =
    meaning_refused wrong before room end tokens h.meaning old new e after.owner is (sound wrong blank end tokens h.meaning h.says) h.reads

-- ---- a call

module _ (room : Room) (before after : RecordReader) (old new : List ℕ) (e : RecordError) (wrong : Wrong) (is : e.kind ≡ Syntax wrong) where
  abbrev Told : Type 0
  Told = (e ≡ error_of_fault (record { at = e.offset; wrong = wrong })) × StartsAfterLine before.octets.now e.offset after.source

  told : (fault : Fault) → e ≡ error_of_fault fault → StartsAfterLine before.octets.now fault.at after.source → Told
  told fault same behind =
      let place : fault.at ≡ e.offset = sym (ap (λ x. x.offset) same) in
      let kind : Syntax fault.wrong ≡ Syntax wrong = sym (ap (λ x. x.kind) same) ∙ is in (
        same ∙ ap (λ n. error_at n (Syntax fault.wrong)) place ∙ ap (error_at e.offset) kind,
        subst (λ n. StartsAfterLine before.octets.now n after.source) place behind,
      )

  ended : (begun : SourceSeen) (start : StartOfEntry) (end : Result EndOfEntry Fault) (read : Result ParsedEntry RecordError)
      → ReadsZoneEntry room start.begins_blank (entry_end begun).at (unread_entry_tokens begun) before.state old read after.state new → IsAfterEntry before.octets.now begun end after.source → Some (Err e) ≡ Some (result_of_entry end read) → Told
  ended begun start (Ok end) (Ok read) reads stands same = cc
  ended begun start (Ok end) (Err x) reads stands same =
      let one : e ≡ x = cc in
      absurd (entries_have_no_faults room start.begins_blank (entry_end begun).at (unread_entry_tokens begun) before.state after.state old new x wrong reads (sym (ap (λ r. r.kind) one) ∙ is))
  ended begun start (Err fault) read reads stands same = let one : e ≡ error_of_fault fault = cc in told fault one stands.1

  told_begun : (begun : SourceSeen) (start : Result (Option StartOfEntry) Fault) → ReadsBegun room before.octets.now begun start before.state old (Some (Err e)) after new → Told
  told_begun begun (Ok (Some start)) r = ended begun start r.1 r.0 r.2 r.3 r.4
  told_begun begun (Ok None) r = let none = r.0 in cc
  told_begun begun (Err fault) r = let one : e ≡ error_of_fault fault = cc in told fault one r.1

pub faults_are_told : FaultsAreReported
faults_are_told room before after old new e wrong h is = told_begun room before after old new e wrong is h.begun h.start h.reads
