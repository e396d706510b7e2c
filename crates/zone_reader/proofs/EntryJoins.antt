-- The steps of an entry, joined.
use Rattle.std.proofs.Common.{ℕ, ◌≡◌, ◌≢◌, Bool, true, false, List, [], ◌∷◌, ◌++◌, ◌-◌, length, take, drop, Option, Some, None, Result, Ok, Err, refl, sym, subst, ap, ◌∙◌, inl, inr, append-nil}
use Rattle.dns_octets.specs.Appending.{Extends}
use Rattle.dns_octets.specs.Room.{Room}
use Rattle.dns_lexer.specs.EntryTokens.{TokenSeen}
use Rattle.rdata_fields.specs.Source.{next_place}
use Rattle.rdata_fields.specs.RecordErrors.{error_at}
use Rattle.rdata_fields.specs.declared.record_error.RecordError.{RecordError}
use Rattle.rdata_values.specs.declared.error.ErrorKind.TheVariants.{EndOfEntry, TrailingArgument}
use Rattle.rdata_values.specs.declared.types.RecordType.{RecordType}
use Rattle.rdata.specs.ByType.{RefusesData, RefusesGeneric, ReadsType, shape_of_code}
use Rattle.rdata.specs.Types.{TypeShape}
use Rattle.rdata.proofs.Reading.{gained_is}
use Rattle.zone_reader.specs.Directives.{ParsesDirective}
use Rattle.zone_reader.specs.EntryMeanings.{EntryMeans, says_nothing, says_origin, says_default_ttl, says_include, says_generate, says_record, says_refused}
use Rattle.zone_reader.specs.Headers.{ParsesHeader}
use Rattle.zone_reader.specs.declared.directive.Directive.{Directive}
use Rattle.zone_reader.specs.declared.directive.Directive.TheVariants.{Origin, Ttl, Include as OfInclude, Generate as OfGenerate}
use Rattle.zone_reader.specs.declared.header.RecordHeader.{RecordHeader}
use Rattle.zone_reader.specs.declared.header.HeaderError.{HeaderError}
use Rattle.zone_reader.proofs.EntryLaws.{entries_say_taken}
use Rattle.zone_reader.specs.EntryReading.{ReadsDataAfterHeader, ReadsZoneEntry, ReadsInclude, ReadsOrigin, ReadsOwner, ReadsAfterHeader, IsMinimum, minimum_of_record, explicit_ttl_of, owner_of_record, record_with, declared_by_rejected, ttl_of_header}
use Rattle.zone_reader.specs.EntrySteps.{ReadsDirective, ReadsLastOrigin, ReadsRecordTokens, tokens_after_owner, ends_early, own_or_last, owner_token, too_many}
use Rattle.zone_reader.specs.Learning.{Updates, chosen_ttl}
use Rattle.zone_reader.specs.Past.{StateAfter, Declared, known_name}
use Rattle.zone_reader.specs.declared.entry.ParsedEntry.{ParsedEntry}
use Rattle.zone_reader.specs.declared.entry.ParsedEntry.TheVariants.{Empty}
use Rattle.zone_reader.specs.declared.known.NameState.{NameState}
use Rattle.zone_reader.specs.declared.state.State.{State}
use Rattle.zone_reader.proofs.Learned.{nothing_learned}
use Rattle.std.proofs.Math.Seq.{drop-append_seam}
use Rattle.std.proofs.lemmas.List.{append_assoc}

pub same_octets : (old new : List ℕ) → new ≡ old → Extends old new
same_octets old new is = ([], is ∙ sym (append-nil old))

-- what is learned first, and then what comes after it
pub learned_both : (first then : List Declared) (a b c : State) → Updates first a b → Updates then b c → Updates (first ++ then) a c
learned_both first then a b c h k = λ start past known. subst (λ l. StateAfter start l c) (append_assoc past first then) (k start (past ++ first) (h start past known))

-- ---- records

chosen_same : (own default last minimum : Option ℕ) → chosen_ttl own default (own_or_last own last) minimum ≡ chosen_ttl own default last minimum
chosen_same None default last minimum = refl
chosen_same (Some ttl) default last minimum = refl

module _ (before : State) (known : NameState) (room : Room) (at end : ℕ) (old new : List ℕ) (result : Result ParsedEntry RecordError) where
  abbrev later : Option ℕ → State
  later own = record before { owner = known; last_ttl = own_or_last own before.last_ttl }

  behind_before : (data_at : ℕ) (w : RecordHeader) (r : Result (Unit {0}) RecordError) → ReadsDataAfterHeader (later w.ttl) at data_at end w old r new result → ReadsDataAfterHeader before at data_at end w old r new result
  behind_before data_at w (Err r) h = h
  behind_before data_at w (Ok u) h =
      (h.0, h.1, (h.2.0, h.2.1, h.2.2 ∙ ap (record_with before at data_at end w) (chosen_same w.ttl before.default_ttl before.last_ttl h.2.0)))

  pub words_before : (first : Result (Unit {0}) RecordError) (words : Result RecordHeader HeaderError) (tokens : List TokenSeen) → ReadsAfterHeader (later (ttl_of_header words)) room at end first words tokens old result new
      → ReadsAfterHeader before room at end first words tokens old result new
  words_before (Err r) words tokens h = h
  words_before (Ok u) (Err r) tokens h = h
  words_before (Ok u) (Ok w) tokens h = (h.0, h.1, h.2, behind_before (next_place tokens end) w h.0 h.3)

  -- the minimum is that of the octets that were appended
  pub minimum_gained : (data_at : ℕ) (w : RecordHeader) (begun : ℕ) (octets shown : List ℕ) (minimum : Option ℕ) → new ≡ old ++ octets → begun ≡ length old → shown ≡ new → IsMinimum w.rtype (take (length shown - begun) (drop begun shown)) minimum
      → result ≡ record_with before at data_at end w (chosen_ttl w.ttl before.default_ttl before.last_ttl minimum) → ReadsDataAfterHeader before at data_at end w old (Ok tt) new result
  minimum_gained data_at w begun octets shown minimum gained is shows h found =
      let all = gained_is begun old new shown is shows ∙ ap (drop (length old)) gained ∙ drop-append_seam old octets in
      (octets, gained, (minimum, subst (λ l. IsMinimum w.rtype l minimum) all h, found))

pub record_joined : (before middle later after : State) (room : Room) (blank : Bool) (at end : ℕ) (tokens left : List TokenSeen) (first : Result (Unit {0}) RecordError) (words : Result RecordHeader HeaderError) (own : Option ℕ) (old new : List ℕ) (r : Result ParsedEntry RecordError)
    → at ≡ next_place tokens end → ReadsOwner before (next_place tokens end) (owner_token blank tokens) first middle.owner → middle ≡ record before { owner = middle.owner } → Updates (owner_of_record (owner_token blank tokens)) before middle
    → ParsesHeader end (tokens_after_owner blank tokens) words left → own ≡ ttl_of_header words → later ≡ record middle { last_ttl = own_or_last own middle.last_ttl } → Updates (explicit_ttl_of own) middle later
    → ReadsAfterHeader later room at end first words left old r new → Extends old new → after.owner ≡ later.owner → Updates (minimum_of_record r) later after → ReadsRecordTokens room blank end tokens before old r after new
record_joined before middle later after room blank at end tokens left first words own old new r place owner is learns takes own_is later_is own_learns reads extends kept last_learns =
    let known = middle.owner in
    let is_later : later ≡ record before { owner = known; last_ttl = own_or_last (ttl_of_header words) before.last_ttl } =
    later_is ∙ ap (λ (s : State). record s { last_ttl = own_or_last own s.last_ttl }) is ∙ ap (λ o. record before { owner = known; last_ttl = own_or_last o before.last_ttl }) own_is in
    let whole = subst (λ s. ReadsAfterHeader s room at end first words left old r new) is_later reads in
    let same = kept ∙ ap (λ (s : State). s.owner) later_is in
    record {
      header = words;
      left = left;
      takes = takes;
      reads = (
        first,
        subst (ReadsOwner before (next_place tokens end) (owner_token blank tokens) first) (sym same) owner,
        subst (λ n. ReadsAfterHeader before room n end first words left old r new) place (words_before before known room at end old new r first words left whole),
      );
      extends = extends;
      learns = learned_both (owner_of_record (owner_token blank tokens)) (explicit_ttl_of (ttl_of_header words) ++ minimum_of_record r) before middle after learns
          (learned_both (explicit_ttl_of (ttl_of_header words)) (minimum_of_record r) middle later after (subst (λ o. Updates (explicit_ttl_of o) middle later) own_is own_learns) last_learns);
    }

-- ---- rejected data

module _ (origin : Option (List (List ℕ))) (room : Room) (rtype : RecordType) (end : ℕ) (tokens left : List TokenSeen) (old new : List ℕ) where
  generic_extends : (found : Option TypeShape) (r : RecordError) → RefusesGeneric found room end tokens old r left new → Extends old new
  generic_extends found r (inl k) = k.extends
  generic_extends found r (inr k) = (k.2.0, k.2.2)

  refused_extends : (r : RecordError) → RefusesData origin room rtype end tokens old r left new → Extends old new
  refused_extends r (inl h) = same_octets old new h.2
  refused_extends r (inr (inl h)) = generic_extends (shape_of_code rtype) r h.2
  refused_extends r (inr (inr (inl h))) = same_octets old new h.2
  refused_extends r (inr (inr (inr h))) = h.1.2.2

  pub data_extends : (r : Result (Unit {0}) RecordError) → ReadsType origin room rtype end tokens old r left new → Extends old new
  data_extends (Ok u) h = (h.1.0, h.1.2)
  data_extends (Err r) h = refused_extends h.0 h.2

-- ---- entries

module _ (origin : Option (List (List ℕ))) (end : ℕ) where
  origin_ended : (r : Result ParsedEntry RecordError) → ReadsLastOrigin origin end [] r → r ≡ Err (ends_early end)
  origin_ended (Ok e) h = let no = h.1.1 in cc
  origin_ended (Err x) h = let same : x ≡ ends_early end = cc in ap Err same

  origin_one : (t : TokenSeen) (r : Result ParsedEntry RecordError) → ReadsLastOrigin origin end (t ∷ []) r → ReadsOrigin origin t r
  origin_one t (Ok e) h = h
  origin_one t (Err x) h = h

  origin_trailed : (t u : TokenSeen) (ts : List TokenSeen) (r : Result ParsedEntry RecordError) → ReadsLastOrigin origin end (t ∷ u ∷ ts) r → r ≡ Err (too_many u)
  origin_trailed t u ts (Ok e) h = let no = h.1.1 in cc
  origin_trailed t u ts (Err x) h = let same : x ≡ too_many u = cc in ap Err same

module _ (room : Room) (blank : Bool) (end : ℕ) (tokens : List TokenSeen) (before : State) (old : List ℕ) where
  pub nothing_read : tokens ≡ [] → ReadsZoneEntry room blank end tokens before old (Ok Empty) before old
  nothing_read none = subst (λ l. ReadsZoneEntry room blank end l before old (Ok Empty) before old) (sym none)
      (record { meaning = says_nothing; says = refl; reads = (refl, refl); extends = same_octets old old refl; learns = nothing_learned before })

  pub head_refused : (left : List TokenSeen) (why : RecordError) → ParsesDirective blank end tokens (Err why) left → ReadsZoneEntry room blank end tokens before old (Err why) before old
  head_refused left why h = record {
    meaning = says_refused why;
    says = entries_say_taken.refused blank end tokens left why h;
    reads = refl;
    extends = same_octets old old refl;
    learns = subst (λ f. Updates (declared_by_rejected f) before before) (sym h.1) (nothing_learned before);
  }

module _ (room : Room) (blank : Bool) (end : ℕ) (tokens : List TokenSeen) (before : State) (old : List ℕ) (r : Result ParsedEntry RecordError) (after : State) (new : List ℕ) where
  -- the origin
  origin_read : (left : List TokenSeen) → ParsesDirective blank end tokens (Ok (Some Origin)) left → ReadsDirective Origin room (next_place tokens end) end left before old r after new → ReadsZoneEntry room blank end tokens before old r after new
  origin_read [] d h = record {
    meaning = says_refused (error_at end EndOfEntry);
    says = entries_say_taken.directive blank end tokens [] Origin _ d refl;
    reads = origin_ended (known_name before.origin) end r h.0;
    extends = same_octets old new h.2;
    learns = subst (λ f. Updates (declared_by_rejected f) before after) (sym d.1) h.1;
  }
  origin_read (t ∷ []) d h = record {
    meaning = says_origin t;
    says = entries_say_taken.directive blank end tokens (t ∷ []) Origin _ d refl;
    reads = (origin_one (known_name before.origin) end t r h.0, h.2);
    extends = same_octets old new h.2;
    learns = h.1;
  }
  origin_read (t ∷ u ∷ ts) d h = record {
    meaning = says_refused (error_at u.at TrailingArgument);
    says = entries_say_taken.directive blank end tokens (t ∷ u ∷ ts) Origin _ d refl;
    reads = origin_trailed (known_name before.origin) end t u ts r h.0;
    extends = same_octets old new h.2;
    learns = subst (λ f. Updates (declared_by_rejected f) before after) (sym d.1) h.1;
  }

  default_read : (left : List TokenSeen) → ParsesDirective blank end tokens (Ok (Some Ttl)) left → ReadsDirective Ttl room (next_place tokens end) end left before old r after new → ReadsZoneEntry room blank end tokens before old r after new
  default_read left d h = record {
    meaning = says_default_ttl h.0.0;
    says = entries_say_taken.directive blank end tokens left Ttl _ d (h.0.0, h.0.1, h.0.2, refl);
    reads = (h.0.3, h.1);
    extends = same_octets old new h.1;
    learns = h.0.4;
  }

  -- a file
  abbrev SaidNothing : Type 0
  SaidNothing = Updates [] before after

  stays : after ≡ before → SaidNothing
  stays is = subst (λ s. Updates [] before s) (sym is) (nothing_learned before)

  include_read : (left : List TokenSeen) → ParsesDirective blank end tokens (Ok (Some OfInclude)) left → ReadsDirective OfInclude room (next_place tokens end) end left before old r after new → ReadsZoneEntry room blank end tokens before old r after new
  include_read [] d h = record {
    meaning = says_refused (error_at end EndOfEntry);
    says = entries_say_taken.directive blank end tokens [] OfInclude _ d refl;
    reads = h.0.1;
    extends = h.0.0;
    learns = subst (λ f. Updates (declared_by_rejected f) before after) (sym d.1) (stays h.1);
  }
  include_read (file ∷ []) d h = record {
    meaning = says_include file.text None;
    says = entries_say_taken.directive blank end tokens (file ∷ []) OfInclude _ d refl;
    reads = subst (λ l. ReadsInclude (known_name before.origin) room (next_place tokens end) end (next_place l end) file.text None old r new) d.0 h.0.1;
    extends = h.0.0;
    learns = stays h.1;
  }
  include_read (file ∷ t ∷ []) d h = record {
    meaning = says_include file.text (Some t);
    says = entries_say_taken.directive blank end tokens (file ∷ t ∷ []) OfInclude _ d refl;
    reads = subst (λ l. ReadsInclude (known_name before.origin) room (next_place tokens end) end (next_place l end) file.text (Some t) old r new) d.0 h.0.1;
    extends = h.0.0;
    learns = stays h.1;
  }
  include_read (file ∷ t ∷ u ∷ ts) d h = record {
    meaning = says_refused (error_at u.at TrailingArgument);
    says = entries_say_taken.directive blank end tokens (file ∷ t ∷ u ∷ ts) OfInclude _ d refl;
    reads = h.0.1;
    extends = h.0.0;
    learns = subst (λ f. Updates (declared_by_rejected f) before after) (sym d.1) (stays h.1);
  }

  -- entries by numbers
  generate_read : (left : List TokenSeen) → ParsesDirective blank end tokens (Ok (Some OfGenerate)) left → ReadsDirective OfGenerate room (next_place tokens end) end left before old r after new
      → ReadsZoneEntry room blank end tokens before old r after new
  generate_read left d h = record {
    meaning = says_generate;
    says = entries_say_taken.directive blank end tokens left OfGenerate _ d refl;
    reads = (h.0, h.1);
    extends = same_octets old new h.1;
    learns = stays h.2;
  }

  pub directive_read : (d : Directive) (left : List TokenSeen) → ParsesDirective blank end tokens (Ok (Some d)) left → ReadsDirective d room (next_place tokens end) end left before old r after new → ReadsZoneEntry room blank end tokens before old r after new
  directive_read Origin left d h = origin_read left d h
  directive_read Ttl left d h = default_read left d h
  directive_read OfInclude left d h = include_read left d h
  directive_read OfGenerate left d h = generate_read left d h

  pub record_read : (left : List TokenSeen) → tokens ≢ [] → ParsesDirective blank end tokens (Ok None) left → ReadsRecordTokens room blank end tokens before old r after new → ReadsZoneEntry room blank end tokens before old r after new
  record_read left some d h = record {
    meaning = says_record (owner_token blank tokens) h.header h.left;
    says = says blank tokens some d h.takes;
    reads = h.reads;
    extends = h.extends;
    learns = h.learns;
  }
    where
      says : (b : Bool) (ts : List TokenSeen) → ts ≢ [] → ParsesDirective b end ts (Ok None) left → ParsesHeader end (tokens_after_owner b ts) h.header h.left
          → EntryMeans b end ts (says_record (owner_token b ts) h.header h.left)
      says true ts s k w = entries_say_taken.blank end ts h.left h.header s w
      says false [] s k w = absurd (s refl)
      says false (t ∷ ts) s k w = entries_say_taken.owner end t ts left h.left h.header k w
