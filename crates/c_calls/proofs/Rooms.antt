-- What is read is read alike with any capacity, unless octets don't fit.
use Rattle.std.proofs.Common.{ℕ, ◌≡◌, ◌++◌, Bool, List, [], ◌∷◌, length, refl, ap, ◌∙◌, inl, inr, Option, Some, None, Result, Ok, Err}
use Rattle.std.specs.List.{AllByRecursion}
use Rattle.dns_octets.specs.Room.{Room}
use Rattle.dns_lexer.specs.EntryTokens.{TokenSeen}
use Rattle.dns_lexer.specs.declared.pieces.EndOfEntry.{EndOfEntry}
use Rattle.dns_lexer.specs.declared.pieces.Fault.{Fault}
use Rattle.rdata.specs.ByType.{ReadsType, RefusesData, RefusesGeneric, shape_of_code}
use Rattle.rdata.specs.Data.{ReadsData, RefusesAfterFields}
use Rattle.rdata.specs.Generic.{generic_form}
use Rattle.rdata.specs.RestKinds.{ParsesTailParts, rest_form}
use Rattle.rdata.specs.Rests.{RefusesAs, RefusesRest, RestForm}
use Rattle.rdata.specs.Types.{TypeShape}
use Rattle.rdata.specs.declared.rest.Rest.{Rest}
use Rattle.rdata.specs.declared.shape.Shape.{Shape}
use Rattle.rdata_fields.specs.Fields.{field_form}
use Rattle.rdata_fields.specs.Forms.{RefusesField}
use Rattle.rdata_fields.specs.RecordErrors.{error_of_fault}
use Rattle.rdata_fields.specs.Parsing.{BeginsField, RefusesNext, SpellsField, ParsesAllFields}
use Rattle.rdata_fields.specs.declared.field.Field.{Field}
use Rattle.rdata_fields.specs.declared.record_error.RecordError.{RecordError}
use Rattle.rdata_values.specs.declared.error.ErrorKind.{ErrorKind}
use Rattle.rdata_values.specs.declared.error.ErrorKind.TheVariants.{ShortBuf}
use Rattle.rdata_values.specs.declared.types.RecordType.{RecordType}
use Rattle.zone_reader.specs.EntryMeanings.{EntryMeaning, says_nothing, says_origin, says_default_ttl, says_include, says_generate, says_record, says_refused}
use Rattle.zone_reader.specs.declared.header.RecordHeader.{RecordHeader}
use Rattle.zone_reader.specs.declared.header.HeaderError.{HeaderError}
use Rattle.rdata_fields.specs.Source.{next_place}
use Rattle.zone_reader.specs.EntryReading.{ReadsDataAfterHeader, ReadsInclude, ReadsMeaning, ReadsRecordData, ReadsAfterHeader, ReadsZoneEntry}
use Rattle.zone_reader.specs.Past.{known_name}
use Rattle.zone_reader.specs.Records.{AreSuccessiveResults, EntryResult, IsDirectiveResult, ReadsBegun, ReadsNextEntry, ReadsNextRecord, IsAfterEntry, given_next, result_of_entry, none_given}
use Rattle.zone_reader.specs.Source.{SourceSeen, entry_end, unread_entry_tokens}
use Rattle.zone_reader.specs.declared.entry.ParsedEntry.{ParsedEntry}
use Rattle.zone_reader.specs.declared.known.NameState.{NameState}
use Rattle.zone_reader.specs.declared.records.RecordReader.{RecordReader}
use Rattle.zone_reader.specs.declared.source.StartOfEntry.{StartOfEntry}
use Rattle.zone_reader.specs.declared.state.State.{State}

-- all of a list with one more element at its end
pub all_before : {X : Type 0} (P : X → Type 0) (xs : List X) (x : X) → AllByRecursion P (xs ++ x ∷ []) → AllByRecursion P xs × P x
all_before P [] x h = (tt, h.0)
all_before P (y ∷ xs) x h = let more = all_before P xs x h.1 in ((h.0, more.0), more.1)

-- a result is not an error
abbrev pub IsNoError : Option (Result ParsedEntry RecordError) → Type 0
IsNoError result = (e : RecordError) → result ≡ Some (Err e) → ⊥

-- a directive is not an error
directive_taken : (old : List ℕ) (g : EntryResult) → IsDirectiveResult old g → IsNoError (Some g.result)
directive_taken old g h e err = let is = h.1 in cc

-- a result is not an error of octets that don't fit
abbrev pub Fits : {X : Type 0} → Result X RecordError → Type 0
Fits result = (r : RecordError) → result ≡ Err r → r.kind ≡ ShortBuf → ⊥

error_fits : {X : Type 0} (r : RecordError) → Fits {X = X} (Err r) → r.kind ≡ ShortBuf → ⊥
error_fits r fits = fits r refl

module _ (one other : Room) where
  -- ---- tokens that are rejected for another reason than the capacity

  field_so : (begun spelled : List ℕ → Type 0) (reason : ErrorKind → Type 0) (old : List ℕ) (e : ErrorKind) → (e ≡ ShortBuf → ⊥) → RefusesField one begun spelled reason old e → RefusesField other begun spelled reason old e
  field_so begun spelled reason old e fits (inl h) = absurd (fits h.0)
  field_so begun spelled reason old e fits (inr h) = inr h

  token_so : (origin : Option (List (List ℕ))) (f : Field) (tokens : List TokenSeen) (old : List ℕ) (e : ErrorKind) → (e ≡ ShortBuf → ⊥) → RefusesNext origin one f tokens old e → RefusesNext origin other f tokens old e
  token_so origin f [] old e fits h = h
  token_so origin f (t ∷ ts) old e fits h = field_so (BeginsField origin f t) (SpellsField origin f t) ((field_form origin f).reason t.is_quoted t.text) old e fits h

  fields_so : (origin : Option (List (List ℕ))) (fields : List Field) (end : ℕ) (tokens : List TokenSeen) (old : List ℕ) (r : RecordError) (left : List TokenSeen) (new : List ℕ) → (r.kind ≡ ShortBuf → ⊥)
      → ParsesAllFields origin one fields end tokens old (Err r) left new → ParsesAllFields origin other fields end tokens old (Err r) left new
  fields_so origin fields end tokens old r left new fits h = (
    h.0,
    record { field = h.1.field; is_field = h.1.is_field; middle = h.1.middle; before = h.1.before; why = token_so origin h.1.field left h.1.middle r.kind fits h.1.why; extends = h.1.extends },
    h.2,
  )

  form_so : (f : RestForm) (tokens : List TokenSeen) (old : List ℕ) (left : List TokenSeen) (e : ErrorKind) → (e ≡ ShortBuf → ⊥) → RefusesAs one f tokens old left e → RefusesAs other f tokens old left e
  form_so f tokens old left e fits (inl h) = absurd (fits h.0)
  form_so f tokens old left e fits (inr h) = inr h

  rest_so : (f : RestForm) (end : ℕ) (tokens : List TokenSeen) (old : List ℕ) (r : RecordError) (left : List TokenSeen) (new : List ℕ) → (r.kind ≡ ShortBuf → ⊥) → RefusesRest one f end tokens old r left new
      → RefusesRest other f end tokens old r left new
  rest_so f end tokens old r left new fits h = record { at = h.at; why = form_so f tokens old left r.kind fits h.why; extends = h.extends }

  parts_so : (origin : Option (List (List ℕ))) (rest : Rest) (before end : ℕ) (tokens : List TokenSeen) (old : List ℕ) (r : RecordError) (left : List TokenSeen) (new : List ℕ) → (r.kind ≡ ShortBuf → ⊥)
      → ParsesTailParts origin one rest before end tokens old (Err r) left new → ParsesTailParts origin other rest before end tokens old (Err r) left new
  parts_so origin rest before end tokens old r left new fits h =
      let same : r.kind ≡ h.0.kind = ap (λ (x : RecordError). x.kind) h.2 in (h.0, h.1, h.2, rest_so (rest_form origin rest) end tokens old h.0 left new (λ k. fits (same ∙ k)) h.3, h.4)

  behind_so : (origin : Option (List (List ℕ))) (shape : Shape) (end : ℕ) (tokens : List TokenSeen) (old : List ℕ) (r : RecordError) (left : List TokenSeen) (new : List ℕ) → (r.kind ≡ ShortBuf → ⊥)
      → RefusesAfterFields origin one shape end tokens old r left new → RefusesAfterFields origin other shape end tokens old r left new
  behind_so origin shape end tokens old r left new fits h = record {
    behind = h.behind;
    middle = h.middle;
    taken = h.taken;
    why = elim h.why [
      | inl hash ↦ inl hash
      | inr more ↦ inr (
        more.0,
        elim more.1 [
          | inl parts ↦ inl (parts_so origin shape.rest (length shape.fields.now) end h.behind h.middle r left new fits parts)
          | inr long ↦ inr long
        ],
      )
    ];
  }

  shaped_so : (origin : Option (List (List ℕ))) (shape : Shape) (end : ℕ) (tokens : List TokenSeen) (old : List ℕ) (r : RecordError) (left : List TokenSeen) (new : List ℕ) → (r.kind ≡ ShortBuf → ⊥)
      → ReadsData origin one shape end tokens old (Err r) left new → ReadsData origin other shape end tokens old (Err r) left new
  shaped_so origin shape end tokens old r left new fits h = (
    elim h.0 [
      | inl fields ↦ inl (fields_so origin shape.fields.now end tokens old r left new fits fields)
      | inr behind ↦ inr (behind_so origin shape end tokens old r left new fits behind)
    ],
    λ octets spelled. absurd (fits (h.1 octets spelled).0),
    h.2,
  )

  generic_so : (found : Option TypeShape) (end : ℕ) (tokens : List TokenSeen) (old : List ℕ) (r : RecordError) (left : List TokenSeen) (new : List ℕ) → (r.kind ≡ ShortBuf → ⊥)
      → RefusesGeneric found one end tokens old r left new → RefusesGeneric found other end tokens old r left new
  generic_so found end tokens old r left new fits (inl h) = inl (rest_so generic_form end tokens old r left new fits h)
  generic_so found end tokens old r left new fits (inr h) = inr h

  refused_so : (origin : Option (List (List ℕ))) (rtype : RecordType) (end : ℕ) (tokens : List TokenSeen) (old : List ℕ) (r : RecordError) (left : List TokenSeen) (new : List ℕ) → (r.kind ≡ ShortBuf → ⊥)
      → RefusesData origin one rtype end tokens old r left new → RefusesData origin other rtype end tokens old r left new
  refused_so origin rtype end tokens old r left new fits (inl h) = inl h
  refused_so origin rtype end tokens old r left new fits (inr (inl h)) = inr (inl (h.0, h.1, generic_so (shape_of_code rtype) end tokens old r left new fits h.2))
  refused_so origin rtype end tokens old r left new fits (inr (inr (inl h))) = inr (inr (inl h))
  refused_so origin rtype end tokens old r left new fits (inr (inr (inr h))) = inr (inr (inr (h.0, (h.1.0, h.1.1, shaped_so origin h.1.0 end tokens old r left new fits h.1.2), h.2)))

  pub type_so : (origin : Option (List (List ℕ))) (rtype : RecordType) (end : ℕ) (tokens : List TokenSeen) (old : List ℕ) (read : Result (Unit {0}) RecordError) (left : List TokenSeen) (new : List ℕ) → Fits read
      → ReadsType origin one rtype end tokens old read left new → ReadsType origin other rtype end tokens old read left new
  type_so origin rtype end tokens old (Ok u) left new fits h = h
  type_so origin rtype end tokens old (Err r) left new fits h =
      let same : r.kind ≡ h.0.kind = ap (λ (x : RecordError). x.kind) h.1 in
      (h.0, h.1, refused_so origin rtype end tokens old h.0 left new (λ k. error_fits {X = Unit {0}} r fits (same ∙ k)) h.2)

  -- ---- entries

  data_so : (before : State) (at end : ℕ) (w : RecordHeader) (tokens : List TokenSeen) (old new : List ℕ) (result : Result ParsedEntry RecordError) (r : Result (Unit {0}) RecordError) (left : List TokenSeen) → Fits result
      → ReadsType (known_name before.origin) one w.rtype end tokens old r left new → ReadsDataAfterHeader before at (next_place tokens end) end w old r new result → ReadsRecordData before other at end w tokens old result new
  data_so before at end w tokens old new result (Ok u) left fits reads behind = (Ok u, left, reads, behind)
  data_so before at end w tokens old new result (Err r) left fits reads behind =
      (Err r, left, type_so (known_name before.origin) w.rtype end tokens old (Err r) left new (λ x is. let same : r ≡ x = cc in λ k. fits r behind (ap (λ (y : RecordError). y.kind) same ∙ k)) reads, behind)

  words_so : (before : State) (at end : ℕ) (first : Result (Unit {0}) RecordError) (words : Result RecordHeader HeaderError) (tokens : List TokenSeen) (old new : List ℕ) (result : Result ParsedEntry RecordError) → Fits result
      → ReadsAfterHeader before one at end first words tokens old result new → ReadsAfterHeader before other at end first words tokens old result new
  words_so before at end (Err r) words tokens old new result fits h = h
  words_so before at end (Ok u) (Err r) tokens old new result fits h = h
  words_so before at end (Ok u) (Ok w) tokens old new result fits h = data_so before at end w tokens old new result h.0 h.1 fits h.2 h.3

  include_so : (origin : Option (List (List ℕ))) (begin end at : ℕ) (file : List ℕ) (token : Option TokenSeen) (old new : List ℕ) (result : Result ParsedEntry RecordError) → Fits result → ReadsInclude origin one begin end at file token old result new
      → ReadsInclude origin other begin end at file token old result new
  include_so origin begin end at file token old new (Ok e) fits h = h
  include_so origin begin end at file token old new (Err r) fits (inl h) = inl h
  include_so origin begin end at file token old new (Err r) fits (inr h) = absurd (error_fits {X = ParsedEntry} r fits (ap (λ (x : RecordError). x.kind) h.2))

  meaning_so : (before : State) (end : ℕ) (tokens : List TokenSeen) (m : EntryMeaning) (old new : List ℕ) (result : Result ParsedEntry RecordError) (owner : NameState) → Fits result
      → ReadsMeaning before one end tokens m old result owner new → ReadsMeaning before other end tokens m old result owner new
  meaning_so before end tokens says_nothing old new result owner fits h = h
  meaning_so before end tokens (says_origin t) old new result owner fits h = h
  meaning_so before end tokens (says_default_ttl r) old new result owner fits h = h
  meaning_so before end tokens (says_include file token) old new result owner fits h = include_so (known_name before.origin) _ _ _ file token old new result fits h
  meaning_so before end tokens says_generate old new result owner fits h = h
  meaning_so before end tokens (says_record token words left) old new result owner fits h = (h.0, h.1, words_so before _ end h.0 words left old new result fits h.2)
  meaning_so before end tokens (says_refused r) old new result owner fits h = h

  pub entry_so : (blank : Bool) (end : ℕ) (tokens : List TokenSeen) (before after : State) (old new : List ℕ) (result : Result ParsedEntry RecordError) → Fits result → ReadsZoneEntry one blank end tokens before old result after new
      → ReadsZoneEntry other blank end tokens before old result after new
  entry_so blank end tokens before after old new result fits h =
      record { meaning = h.meaning; says = h.says; reads = meaning_so before end tokens h.meaning old new result after.owner fits h.reads; extends = h.extends; learns = h.learns }

  begun_so : (octets : List ℕ) (begun : SourceSeen) (start : Result (Option StartOfEntry) Fault) (before : State) (old new : List ℕ) (result : Option (Result ParsedEntry RecordError)) (after : RecordReader)
      → IsNoError result → ReadsBegun one octets begun start before old result after new → ReadsBegun other octets begun start before old result after new
  begun_so octets begun (Ok (Some start)) before old new result after taken h = go h.0 h.1 h.2 h.3 h.4
    where
      go : (read : Result ParsedEntry RecordError) (end : Result EndOfEntry Fault) → ReadsZoneEntry one start.begins_blank (entry_end begun).at (unread_entry_tokens begun) before old read after.state new
          → IsAfterEntry octets begun end after.source → result ≡ Some (result_of_entry end read) → ReadsBegun other octets begun (Ok (Some start)) before old result after new
      go read (Ok end) reads stands is =
          (read, Ok end, entry_so start.begins_blank _ _ before after.state old new read (λ r e k. taken r (is ∙ ap Some e)) reads, stands, is)
      go read (Err f) reads stands is = absurd (taken (error_of_fault f) is)
  begun_so octets begun (Ok None) before old new result after taken h = h
  begun_so octets begun (Err fault) before old new result after taken h = h

  next_so : (before after : RecordReader) (old new : List ℕ) (result : Option (Result ParsedEntry RecordError)) → IsNoError result → ReadsNextEntry one before old result after new
      → ReadsNextEntry other before old result after new
  next_so before after old new result taken h = record {
    start = h.start;
    begun = h.begun;
    begins = h.begins;
    reads = begun_so before.octets.now h.begun h.start before.state old new result after taken h.reads;
    octets_stay = h.octets_stay;
  }

  pub row_so : (old : List ℕ) (first last : RecordReader) (given : List EntryResult) → AllByRecursion (IsDirectiveResult old) given → AreSuccessiveResults one first given last → AreSuccessiveResults other first given last
  row_so old first last given are none_given = none_given
  row_so old first last given are (given_next front middle end g row next state) =
      let both = all_before (IsDirectiveResult old) front g are in
      given_next front middle end g (row_so old first middle front both.0 row) (next_so middle end g.old g.new (Some g.result) (directive_taken old g both.1) next) state

  pub any_room : (before after : RecordReader) (old new : List ℕ) (result : Option (Result ParsedEntry RecordError)) → IsNoError result → ReadsNextRecord one before old result after new
      → ReadsNextRecord other before old result after new
  any_room before after old new result taken h = record {
    directives = h.directives;
    middle = h.middle;
    row = row_so old before h.middle h.directives h.are_directives h.row;
    are_directives = h.are_directives;
    last = next_so h.middle after old new result taken h.last;
    is_last = h.is_last;
  }
