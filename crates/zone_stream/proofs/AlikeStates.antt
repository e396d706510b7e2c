-- Entries are read alike from states that are alike.
use Rattle.std.proofs.Common.{◌≡◌, ℕ, List, [], ◌∷◌, Option, Some, None, Result, Ok, Err, refl, sym, subst, ap, ◌∙◌}
use Rattle.std.specs.Prelude.{drop, unwrap_or}
use Rattle.std.proofs.lemmas.Option.{none-some}
use Rattle.dns_octets.specs.Room.{Room}
use Rattle.dns_lexer.specs.EntryTokens.{TokenSeen}
use Rattle.rdata_fields.specs.Source.{next_place}
use Rattle.rdata.specs.ByType.{ReadsType}
use Rattle.zone_reader.specs.Directives.{first_directive}
use Rattle.zone_reader.specs.EntryMeanings.{EntryMeaning, says_nothing, says_origin, says_default_ttl, says_include, says_generate, says_record, says_refused}
use Rattle.zone_reader.specs.declared.header.RecordHeader.{RecordHeader}
use Rattle.zone_reader.specs.declared.header.HeaderError.{HeaderError}
use Rattle.rdata_fields.specs.declared.record_error.RecordError.{RecordError}
use Rattle.zone_reader.specs.EntryReading.{NamesOrRefuses, ReadsDataAfterHeader, ReadsInclude, ReadsMeaning, ReadsOrigin, ReadsOwner, ReadsRecordData, ReadsAfterHeader, record_with, declared_by_entry}
use Rattle.zone_reader.specs.Learning.{chosen_ttl}
use Rattle.zone_reader.specs.Past.{Declared, default_ttl_declared, ttl_declared, IsOriginAfter, no_origin_said, origin_said_last, IsOwnerAfter, no_owner_said, owner_said_last, IsTtlAfter, StateAfter, known_name}
use Rattle.zone_reader.specs.declared.entry.ParsedEntry.{ParsedEntry}
use Rattle.zone_reader.specs.declared.entry.ParsedEntry.TheVariants.{Record}
use Rattle.zone_reader.specs.declared.known.NameState.{NameState}
use Rattle.zone_reader.specs.declared.state.State.{State}
use Rattle.zone_reader.specs.declared.ttl.RecordTtl.{RecordTtl}
use Rattle.zone_reader.proofs.Learned.{learns_of}
use Rattle.zone_reader.proofs.PastStates.{starts}
use Rattle.zone_reader.proofs.Pasts.{newer, ttl_after, ttl_found, ttl_is}
use Rattle.zone_stream.specs.Alike.{AreAlike}
use Rattle.zone_stream.specs.CutLaws.{AlikeStatesReadAlike}

-- ---- the same values leave states that are alike

origin_same : (a b : State) → a.origin ≡ b.origin → (past : List Declared) (o : NameState) → IsOriginAfter a past o → IsOriginAfter b past o
origin_same a b e past o (no_origin_said p q quiet is) = no_origin_said past o quiet (is ∙ e)
origin_same a b e past o (origin_said_last p q token last before was named) = origin_said_last past o token last before (origin_same a b e last.before before was) named

owner_same : (a b : State) → a.origin ≡ b.origin → a.owner ≡ b.owner → (past : List Declared) (o : NameState) → IsOwnerAfter a past o → IsOwnerAfter b past o
owner_same a b e f past o (no_owner_said quiet is) = no_owner_said quiet (is ∙ f)
owner_same a b e f past o (owner_said_last token last before was named) = owner_said_last token last before (origin_same a b e last.before before was) named

none_newer : (o first : Option ℕ) → newer o first ≡ None → first ≡ None
none_newer None first e = e
none_newer (Some x) first e = absurd (none-some x (sym e))

none_first : (says : Declared → Option ℕ) (first : Option ℕ) (said : List Declared) → ttl_after says first said ≡ None → first ≡ None
none_first says first [] e = e
none_first says first (s ∷ said) e = none_newer (says s) first (none_first says (newer (says s) first) said e)

same_choice : (own default last other minimum : Option ℕ) → (default ≡ None → last ≡ other) → chosen_ttl own default last minimum ≡ chosen_ttl own default other minimum
same_choice (Some ttl) default last other minimum h = refl
same_choice None (Some ttl) last other minimum h = refl
same_choice None None last other minimum h = ap (λ l. chosen_ttl None None l minimum) (h refl)

same_record : (a b : State) (at data_at end : ℕ) (w : RecordHeader) (c : Option RecordTtl) → a.class ≡ b.class → record_with a at data_at end w c ≡ record_with b at data_at end w c
same_record a b at data_at end w None e = refl
same_record a b at data_at end w (Some ttl) e = ap (λ k. Ok (Record at data_at end ttl (unwrap_or w.class k) w.rtype)) e

module _ (a b : State) (alike : AreAlike a b) where
  -- the state that an entry leaves after the one state, moved to the other
  abbrev left_by : List Declared → State → State
  left_by said after = record { origin = after.origin; owner = after.owner; default_ttl = after.default_ttl; last_ttl = ttl_after ttl_declared b.last_ttl said; class = after.class }

  known_alike : (said : List Declared) (after : State) → StateAfter a said after → StateAfter b said (left_by said after)
  known_alike said after h = record {
    origin = origin_same a b alike.origin said after.origin h.origin;
    owner = owner_same a b alike.origin alike.owner said after.owner h.owner;
    default_ttl = subst (λ d. IsTtlAfter default_ttl_declared d said after.default_ttl) alike.default_ttl h.default_ttl;
    last_ttl = ttl_found ttl_declared b.last_ttl said (ttl_after ttl_declared b.last_ttl said) refl;
    class = h.class ∙ alike.class;
  }

  left_alike : (said : List Declared) (after : State) → StateAfter a said after → AreAlike after (left_by said after)
  left_alike said after h = record {
    origin = refl;
    owner = refl;
    default_ttl = refl;
    last_ttl = λ none.
        let first : a.default_ttl ≡ None = none_first default_ttl_declared a.default_ttl said (sym (ttl_is default_ttl_declared a.default_ttl said after.default_ttl h.default_ttl) ∙ none) in
        ttl_is ttl_declared a.last_ttl said after.last_ttl h.last_ttl ∙ ap (λ l. ttl_after ttl_declared l said) (alike.last_ttl first);
    class = refl;
  }

  -- ---- entries

  module _ (room : Room) (at end : ℕ) (old new : List ℕ) (result : Result ParsedEntry RecordError) where
    same_ttl : (data_at : ℕ) (w : RecordHeader) (minimum : Option ℕ) → record_with a at data_at end w (chosen_ttl w.ttl a.default_ttl a.last_ttl minimum) ≡ record_with b at data_at end w (chosen_ttl w.ttl b.default_ttl b.last_ttl minimum)
    same_ttl data_at w minimum =
        same_record a b at data_at end w (chosen_ttl w.ttl a.default_ttl a.last_ttl minimum) alike.class
        ∙ ap (record_with b at data_at end w) (same_choice w.ttl a.default_ttl a.last_ttl b.last_ttl minimum alike.last_ttl ∙ ap (λ d. chosen_ttl w.ttl d b.last_ttl minimum) alike.default_ttl)

    same_behind : (data_at : ℕ) (w : RecordHeader) (r : Result (Unit {0}) RecordError) → ReadsDataAfterHeader a at data_at end w old r new result → ReadsDataAfterHeader b at data_at end w old r new result
    same_behind data_at w (Err r) h = h
    same_behind data_at w (Ok u) h = (h.0, h.1, (h.2.0, h.2.1, h.2.2 ∙ same_ttl data_at w h.2.0))

    same_data : (w : RecordHeader) (tokens : List TokenSeen) → ReadsRecordData a room at end w tokens old result new → ReadsRecordData b room at end w tokens old result new
    same_data w tokens h = (h.0, h.1, subst (λ o. ReadsType (known_name o) room w.rtype end tokens old h.0 h.1 new) alike.origin h.2, same_behind (next_place tokens end) w h.0 h.3)

    same_words : (first : Result (Unit {0}) RecordError) (words : Result RecordHeader HeaderError) (tokens : List TokenSeen) → ReadsAfterHeader a room at end first words tokens old result new → ReadsAfterHeader b room at end first words tokens old result new
    same_words (Err r) words tokens h = h
    same_words (Ok u) (Err r) tokens h = h
    same_words (Ok u) (Ok w) tokens h = same_data w tokens h

    same_owner : (token : Option TokenSeen) (first : Result (Unit {0}) RecordError) (known : NameState) → ReadsOwner a at token first known → ReadsOwner b at token first known
    same_owner None (Ok u) known h = (h.0 ∙ alike.owner, h.1)
    same_owner None (Err r) known h = (h.0 ∙ alike.owner, h.1, h.2)
    same_owner (Some t) (Ok u) known h = (h.0, h.1, subst (λ o. NamesOrRefuses (known_name o) t (Ok h.0)) alike.origin h.2)
    same_owner (Some t) (Err r) known h = (h.0, subst (λ o. NamesOrRefuses (known_name o) t (Err r)) alike.origin h.1)

  same_meaning : (room : Room) (end : ℕ) (tokens : List TokenSeen) (m : EntryMeaning) (old new : List ℕ) (result : Result ParsedEntry RecordError) (owner : NameState) → ReadsMeaning a room end tokens m old result owner new
      → ReadsMeaning b room end tokens m old result owner new
  same_meaning room end tokens says_nothing old new result owner h = h
  same_meaning room end tokens (says_origin t) old new result owner h = (subst (λ o. ReadsOrigin (known_name o) t result) alike.origin h.0, h.1)
  same_meaning room end tokens (says_default_ttl r) old new result owner h = h
  same_meaning room end tokens (says_include file token) old new result owner h =
      subst (λ o. ReadsInclude (known_name o) room (next_place tokens end) end (next_place (drop 1 tokens) end) file token old result new) alike.origin h
  same_meaning room end tokens says_generate old new result owner h = h
  same_meaning room end tokens (says_record token words left) old new result owner h = (
    h.0,
    same_owner room (next_place tokens end) end old new result token h.0 owner h.1,
    same_words room (next_place tokens end) end old new result h.0 words left h.2,
  )
  same_meaning room end tokens (says_refused r) old new result owner h = h

pub read_alike : AlikeStatesReadAlike
read_alike room blank end tokens a b after old new result alike h =
    let said : List Declared = declared_by_entry (first_directive blank tokens) h.meaning result in
    let known : StateAfter a said after = h.learns a [] (starts a) in
    let other : State = left_by a b alike said after in (
      other,
      record {
        meaning = h.meaning;
        says = h.says;
        reads = same_meaning a b alike room end tokens h.meaning old new result after.owner h.reads;
        extends = h.extends;
        learns = learns_of said b other (known_alike a b alike said after known);
      },
      left_alike a b alike said after known,
    )
