-- The state after the lines of a head.
use Rattle.std.proofs.Common.{◌≡◌, ◌≢◌, ◌<◌, ◌≤◌, ◌+◌, ◌^◌, ℕ, false, List, [], ◌∷◌, ◌++◌, length, map, Option, Some, None, Result, Ok, refl, sym, subst, ap, ◌∙◌, arith}
use Rattle.std.specs.Prelude.{codes, decimal, if◌then◌else◌, unwrap_or}
use Rattle.std.specs.List.{AllByRecursion}
use Rattle.std.specs.Option.{option_to_list}
use Rattle.dns_octets.specs.Room.{Room}
use Rattle.dns_wire.specs.Wire.{wire}
use Rattle.rdata_values.specs.Ttl.{SpellsTtl}
use Rattle.rdata_values.proofs.TtlLaws.{ttls_are_kind}
use Rattle.rdata_tokens.specs.NameSpelling.{IsOrigin, IsWireName, SpellsName}
use Rattle.rdata_tokens.specs.PrintedNames.{wire_name_text}
use Rattle.rdata_tokens.proofs.NameLaws.{names_spelled}
use Rattle.dns_lexer.specs.EntryTokens.{TokenSeen}
use Rattle.rdata.specs.GatewayKeys.{plain_word}
use Rattle.rdata.specs.Rests.{ArePrinted}
use Rattle.zone_reader.specs.Directives.{directive_of, directive_of_word, first_directive}
use Rattle.zone_reader.specs.EntryMeanings.{EntryMeans, FirstTokenMeans, says_default_ttl, says_origin}
use Rattle.zone_reader.specs.declared.directive.Directive.TheVariants.{Origin, Ttl}
use Rattle.zone_reader.proofs.EntryLaws.{entries_say_once}
use Rattle.zone_reader.proofs.WordLemmas.{says_short_ttl}
use Rattle.rdata_fields.specs.declared.record_error.RecordError.{RecordError}
use Rattle.zone_reader.specs.EntryReading.{ReadsZoneEntry, declared_by_entry}
use Rattle.zone_reader.specs.Learning.{Updates}
use Rattle.zone_reader.specs.Past.{NewOrigin, NewDefaultTtl, known_name, nothing_declared, seconds_of}
use Rattle.zone_reader.specs.declared.entry.ParsedEntry.{ParsedEntry}
use Rattle.zone_reader.specs.declared.known.NameState.{NameState}
use Rattle.zone_reader.specs.declared.known.NameState.TheVariants.{Unset, Name, Rejected}
use Rattle.zone_reader.specs.declared.state.State.{State}
use Rattle.zone_reader.specs.declared.ttl.RecordTtl.{RecordTtl}
use Rattle.zone_reader.specs.declared.ttl.RecordTtl.TheVariants.{Explicit, Default, Last, Minimum}
use Rattle.zone_reader.proofs.Learned.{default_learned, origin_learned}
use Rattle.zone_reader.proofs.PastStates.{known_once, name_alone, starts}
use Rattle.zone_record.specs.Records.{data_of, record_tokens}
use Rattle.zone_record.specs.declared.record.Record.{Record}
use Rattle.std.proofs.lemmas.Option.{none-some}
use Rattle.zone_stream.specs.Alike.{AreReadInTurn, ReadsHeadLine}
use Rattle.zone_stream.specs.CutLaws.{HeadLeadsThere}
use Rattle.zone_stream.specs.Heads.{Line, default_ttl_lines, directive_lines, head_records, origin_lines, state_of}
use Rattle.zone_stream.specs.LawSteps.{IsKnownRecord}
use Rattle.zone_stream.specs.declared.head.PartHead.{PartHead}
use Rattle.zone_stream.proofs.ReadRecords.{LeavesTtls, record_leaves}

-- ---- one line

module _ (room : Room) (end : ℕ) (before after : State) (old new : List ℕ) (result : Result ParsedEntry RecordError) where
  origin_read : (labels : List (List ℕ)) (tokens : List TokenSeen) → IsWireName (wire labels) → ArePrinted (plain_word (codes "$ORIGIN") ∷ plain_word (wire_name_text (wire labels)) ∷ []) tokens
      → ReadsZoneEntry room false end tokens before old result after new → after ≡ record before { origin = Name labels }
  origin_read labels [] name p h = absurd p
  origin_read labels (t ∷ []) name p h = absurd p.3
  origin_read labels (t ∷ u ∷ v ∷ ts) name p h = absurd p.3.3
  origin_read labels (t ∷ u ∷ []) name p h =
      let origin = known_name before.origin in
      let is : directive_of t ≡ Some (Ok Origin) = ap (λ b. if b then None else directive_of_word t.text) p.0 ∙ ap directive_of_word p.1 in
      let says : EntryMeans false end (t ∷ u ∷ []) (says_origin u) = subst (λ d. FirstTokenMeans d end t (u ∷ []) (says_origin u)) (sym is) refl in
      let same : h.meaning ≡ says_origin u = entries_say_once false end (t ∷ u ∷ []) h.meaning (says_origin u) h.says says in
      let learns : Updates (NewOrigin (Some u) ∷ []) before after = subst (λ m. Updates (declared_by_entry (first_directive false (t ∷ u ∷ [])) m result) before after) same h.learns in
      let spelled : SpellsName origin u.text (wire labels) =
      subst (λ l. SpellsName origin l (wire labels)) (sym p.3.1) (name_alone origin (wire_name_text (wire labels)) (wire labels) ((names_spelled None tt).back (wire labels) name)) in
      known_once before (NewOrigin (Some u) ∷ []) after (record before { origin = Name labels }) (learns before [] (starts before))
      (origin_learned before (Some u) (Name labels) (p.3.0, spelled) before [] (starts before))

  ttl_read : (ttl : ℕ) (tokens : List TokenSeen) → ttl < 2 ^ 31 → ArePrinted (plain_word (codes "$TTL") ∷ plain_word (decimal ttl) ∷ []) tokens → ReadsZoneEntry room false end tokens before old result after new
      → after ≡ record before { default_ttl = Some ttl }
  ttl_read ttl [] small p h = absurd p
  ttl_read ttl (t ∷ []) small p h = absurd p.3
  ttl_read ttl (t ∷ u ∷ v ∷ ts) small p h = absurd p.3.3
  ttl_read ttl (t ∷ u ∷ []) small p h =
      let is : directive_of t ≡ Some (Ok Ttl) = ap (λ b. if b then None else directive_of_word t.text) p.0 ∙ ap directive_of_word p.1 in
      let spelled : SpellsTtl u.text ttl = subst (λ l. SpellsTtl l ttl) (sym p.3.1) (ttls_are_kind.spelled ttl small) in
      let says : EntryMeans false end (t ∷ u ∷ []) (says_default_ttl (Ok ttl)) =
      subst (λ d. FirstTokenMeans d end t (u ∷ []) (says_default_ttl (Ok ttl))) (sym is) (Ok ttl, [], ((u, refl, says_short_ttl u ttl p.3.0 spelled), refl), refl) in
      let same : h.meaning ≡ says_default_ttl (Ok ttl) = entries_say_once false end (t ∷ u ∷ []) h.meaning (says_default_ttl (Ok ttl)) h.says says in
      let learns : Updates (NewDefaultTtl ttl ∷ []) before after = subst (λ m. Updates (declared_by_entry (first_directive false (t ∷ u ∷ [])) m result) before after) same h.learns in
      known_once before (NewDefaultTtl ttl ∷ []) after (record before { default_ttl = Some ttl }) (learns before [] (starts before)) (default_learned before ttl before [] (starts before))

-- ---- all lines

module _ (room : Room) where
  read_parts : (xs ys : List Line) (first last : State) → AreReadInTurn room first (xs ++ ys) last → (middle : State) × AreReadInTurn room first xs middle × AreReadInTurn room middle ys last
  read_parts [] ys first last h = (first, refl, h)
  read_parts (x ∷ xs) ys first last h = let more = read_parts xs ys h.0 last h.2 in (more.0, (h.0, h.1, more.1), more.2)

  -- the name of an origin is a name on the wire, if it is known
  abbrev pub IsNameOf : NameState → Type 0
  IsNameOf origin = (labels : List (List ℕ)) → known_name origin ≡ Some labels → IsWireName (wire labels)

  origins_read : (origin : NameState) (first last : State) → origin ≢ Rejected → IsNameOf origin → first.origin ≡ Unset → AreReadInTurn room first (origin_lines origin) last → last ≡ record first { origin = origin }
  origins_read Unset first last some name none h = h ∙ (λ i. record first { origin = none i })
  origins_read (Name labels) first last some name none h =
      let l : ReadsHeadLine room first _ h.0 = h.1 in h.2 ∙ origin_read room l.end first h.0 l.old l.new l.result labels l.tokens (name labels refl) l.printed l.reads
  origins_read Rejected first last some name none h = absurd (some refl)

  ttls_read : (default : Option ℕ) (first last : State) → unwrap_or default 0 < 2 ^ 31 → first.default_ttl ≡ None → AreReadInTurn room first (default_ttl_lines default) last → last ≡ record first { default_ttl = default }
  ttls_read None first last small none h = h ∙ (λ i. record first { default_ttl = none i })
  ttls_read (Some ttl) first last small none h =
      let l : ReadsHeadLine room first _ h.0 = h.1 in h.2 ∙ ttl_read room l.end first h.0 l.old l.new l.result ttl l.tokens small l.printed l.reads

  -- after a record
  record Behind {N O : Type 0} (r : Record N O) (before after : State) : Type 0 where
    origin : after.origin ≡ before.origin
    owner : after.owner ≡ Name r.owner
    default_ttl : after.default_ttl ≡ before.default_ttl
    last_ttl : after.last_ttl ≡ Some r.ttl
    class : after.class ≡ before.class

  module _ {N O : Type 0} where
    record_read : (r : Record N O) (before after : State) → IsKnownRecord r → r.ttl < 2 ^ 31 → IsOrigin (known_name before.origin) → ReadsHeadLine room before (record_tokens r) after → Behind r before after
    record_read r before after known small origin l =
        let own = data_of r in
        let fits : length l.old + length own.octets ≤ room.fits = omega (arith, l.fits, known.values.typed.short) in
        let is = known.read room l.end l.tokens before after l.old l.new l.result small l.printed origin fits l.reads in
        let leaves = record_leaves room false l.end l.tokens before after l.old l.new _ _ _ (Explicit r.ttl) r.class own.rtype (subst (λ e. ReadsZoneEntry room false l.end l.tokens before l.old e after l.new) is.1 l.reads) in
        record { origin = leaves.origin; owner = is.2; default_ttl = leaves.ttls.0; last_ttl = leaves.ttls.1; class = leaves.class }

    -- after records, the names and the TTLs are those of the last
    records_read : (repeated : Option (Record N O)) (r : Record N O) (first last : State) → AllByRecursion IsKnownRecord (option_to_list repeated) → IsKnownRecord r → AllByRecursion (λ x. x.ttl < 2 ^ 31) (option_to_list repeated ++ r ∷ [])
        → IsOrigin (known_name first.origin) → AreReadInTurn room first (map record_tokens (option_to_list repeated ++ r ∷ [])) last → Behind r first last
    records_read None r first last others known small origin h =
        subst (Behind r first) (sym h.2) (record_read r first h.0 known small.0 origin h.1)
    records_read (Some s) r first last others known small origin h =
        let one = record_read s first h.0 others.0 small.0 origin h.1 in
        let two = record_read r h.0 h.2.0 known small.1.0 (subst (λ o. IsOrigin (known_name o)) (sym one.origin) origin) h.2.1 in
        subst (Behind r first) (sym h.2.2) (record { origin = two.origin ∙ one.origin; owner = two.owner; default_ttl = two.default_ttl ∙ one.default_ttl; last_ttl = two.last_ttl; class = two.class ∙ one.class })

-- ---- the state that a head describes

-- if no default is known, the last TTL is that of the record
last_is : (before after : State) (ttl : RecordTtl) → LeavesTtls ttl before after → after.default_ttl ≡ None → after.last_ttl ≡ Some (seconds_of ttl)
last_is before after (Explicit n) h none = h.1
last_is before after (Default n) h none = absurd (none-some n (sym none ∙ h))
last_is before after (Last n) h none = h
last_is before after (Minimum n) h none = absurd (none-some n (sym none ∙ h))

module _ {N O : Type 0} (h : PartHead N O) (name : (labels : List (List ℕ)) → known_name (state_of h).origin ≡ Some labels → IsWireName (wire labels)) (octets : IsOrigin (known_name (state_of h).origin)) (others : AllByRecursion IsKnownRecord (option_to_list h.repeated))
    (first : IsKnownRecord h.first) where
  pub leads_there : HeadLeadsThere h
  leads_there room last short behind reads =
      let s : State = state_of h in
      let start : State = nothing_declared s.class in
      let leaves = record_leaves behind.room behind.blank behind.end behind.tokens behind.before s behind.old behind.new behind.at behind.data_at behind.last behind.ttl behind.class behind.rtype behind.reads in
      let parts = read_parts room (directive_lines s) (map record_tokens (head_records h)) start last reads in
      let halves = read_parts room (origin_lines s.origin) (default_ttl_lines s.default_ttl) start parts.0 parts.1 in
      let origin : halves.0 ≡ record start { origin = s.origin } = origins_read room s.origin start halves.0 (λ e. behind.origin (sym leaves.origin ∙ e)) name refl halves.1 in
      let default : parts.0 ≡ record halves.0 { default_ttl = s.default_ttl } = ttls_read room s.default_ttl halves.0 parts.0 short.0 (ap (λ x. x.default_ttl) origin) halves.2 in
      let with_default : State → State = λ x. record x { default_ttl = s.default_ttl } in
      let middle : parts.0 ≡ record start { origin = s.origin; default_ttl = s.default_ttl } = default ∙ ap with_default origin in
      let end = records_read room h.repeated h.first parts.0 last others first short.1 (subst (λ x. IsOrigin (known_name x.origin)) (sym middle) octets) parts.2 in
      record {
        origin = sym (end.origin ∙ ap (λ x. x.origin) middle);
        owner = behind.owner ∙ sym end.owner;
        default_ttl = sym (end.default_ttl ∙ ap (λ x. x.default_ttl) middle);
        last_ttl = λ none. last_is behind.before s behind.ttl leaves.ttls none ∙ ap Some (sym behind.ttl_is) ∙ sym end.last_ttl;
        class = sym (end.class ∙ ap (λ x. x.class) middle);
      }
