-- The state after the lines that set a state.
use Rattle.std.proofs.Common.{◌≡◌, ◌≢◌, ◌<◌, ◌≤◌, ◌+◌, ◌^◌, ℕ, false, List, [], ◌∷◌, ◌++◌, length, map, Option, Some, None, Result, Ok, refl, sym, subst, ap, ◌∙◌, arith}
use Rattle.std.specs.Prelude.{codes, decimal, if◌then◌else◌, unwrap_or}
use Rattle.std.specs.List.{AllByRecursion}
use Rattle.std.specs.Option.{option_or, option_to_list}
use Rattle.std.proofs.lemmas.Option.{none-some}
use Rattle.dns_octets.specs.Room.{Room}
use Rattle.dns_wire.specs.Wire.{wire}
use Rattle.dns_lexer.specs.EntryTokens.{TokenSeen}
use Rattle.rdata.specs.GatewayKeys.{plain_word}
use Rattle.rdata.specs.Rests.{ArePrinted}
use Rattle.rdata_fields.specs.declared.record_error.RecordError.{RecordError}
use Rattle.rdata_tokens.specs.NameSpelling.{IsOrigin, IsWireName, SpellsName}
use Rattle.rdata_tokens.specs.PrintedNames.{wire_name_text}
use Rattle.rdata_tokens.proofs.NameLaws.{names_spelled}
use Rattle.rdata_values.specs.Ttl.{SpellsTtl}
use Rattle.rdata_values.proofs.TtlLaws.{ttls_are_kind}
use Rattle.zone_reader.specs.Directives.{directive_of, directive_of_word, first_directive}
use Rattle.zone_reader.specs.EntryMeanings.{EntryMeans, FirstTokenMeans, says_default_ttl, says_origin}
use Rattle.zone_reader.specs.EntryReading.{ReadsZoneEntry, declared_by_entry}
use Rattle.zone_reader.specs.Learning.{Updates}
use Rattle.zone_reader.specs.Past.{NewDefaultTtl, NewOrigin, known_name, nothing_declared}
use Rattle.zone_reader.specs.declared.directive.Directive.TheVariants.{Origin, Ttl}
use Rattle.zone_reader.specs.declared.entry.ParsedEntry.{ParsedEntry}
use Rattle.zone_reader.specs.declared.known.NameState.{NameState}
use Rattle.zone_reader.specs.declared.known.NameState.TheVariants.{Unset, Name, Rejected}
use Rattle.zone_reader.specs.declared.state.State.{State}
use Rattle.zone_reader.specs.declared.ttl.RecordTtl.TheVariants.{Explicit}
use Rattle.zone_reader.proofs.EntryLaws.{entries_say_once}
use Rattle.zone_reader.proofs.Learned.{default_learned, origin_learned}
use Rattle.zone_reader.proofs.PastStates.{known_once, name_alone, starts}
use Rattle.zone_reader.proofs.WordLemmas.{says_short_ttl}
use Rattle.zone_record.specs.Records.{data_of, record_tokens}
use Rattle.zone_record.specs.declared.record.Record.{Record}
use Rattle.zone_stream.specs.Alike.{AreReadInTurn, ReadsHeadLine}
use Rattle.zone_stream.specs.Heads.{Line, default_ttl_lines, origin_lines}
use Rattle.zone_stream.specs.LawSteps.{IsKnownRecord}
use Rattle.zone_stream.proofs.ReadRecords.{record_leaves}
use Rattle.zone_parts.specs.StateHeads.{LinesLeadThere, SetsOwner, SetsState}
use Rattle.zone_parts.specs.declared.head.StateHead.{StateHead}

-- ---- one line

module _ (room : Room) (end : ℕ) (before after : State) (old new : List ℕ) (result : Result ParsedEntry RecordError) where
  origin_read : (labels : List (List ℕ)) (tokens : List TokenSeen) → IsWireName (wire labels) → ArePrinted (plain_word (codes "$ORIGIN") ∷ plain_word (wire_name_text (wire labels)) ∷ []) tokens
      → ReadsZoneEntry room false end tokens before old result after new → after ≡ record before { origin = Name labels }
  origin_read labels [] name p h = absurd p
  origin_read labels (t ∷ []) name p h = absurd p.3
  origin_read labels (t ∷ u ∷ v ∷ ts) name p h = absurd p.3.3
  origin_read labels (t ∷ u ∷ []) name p h =
      let origin = known_name before.origin in
      let is : directive_of t ≡ Some (Ok Origin) = ap (λ b. if b then None else directive_of_word t.text) p.0 ∙ ap directive_of_word p.1 in
      let says : EntryMeans false end (t ∷ u ∷ []) (says_origin u) = subst (λ d. FirstTokenMeans d end t (u ∷ []) (says_origin u)) (sym is) refl in
      let same : h.meaning ≡ says_origin u = entries_say_once false end (t ∷ u ∷ []) h.meaning (says_origin u) h.says says in
      let learns : Updates (NewOrigin (Some u) ∷ []) before after = subst (λ m. Updates (declared_by_entry (first_directive false (t ∷ u ∷ [])) m result) before after) same h.learns in
      let spelled : SpellsName origin u.text (wire labels) =
      subst (λ l. SpellsName origin l (wire labels)) (sym p.3.1) (name_alone origin (wire_name_text (wire labels)) (wire labels) ((names_spelled None tt).back (wire labels) name)) in
      known_once before (NewOrigin (Some u) ∷ []) after (record before { origin = Name labels }) (learns before [] (starts before))
      (origin_learned before (Some u) (Name labels) (p.3.0, spelled) before [] (starts before))

  ttl_read : (ttl : ℕ) (tokens : List TokenSeen) → ttl < 2 ^ 31 → ArePrinted (plain_word (codes "$TTL") ∷ plain_word (decimal ttl) ∷ []) tokens → ReadsZoneEntry room false end tokens before old result after new
      → after ≡ record before { default_ttl = Some ttl }
  ttl_read ttl [] small p h = absurd p
  ttl_read ttl (t ∷ []) small p h = absurd p.3
  ttl_read ttl (t ∷ u ∷ v ∷ ts) small p h = absurd p.3.3
  ttl_read ttl (t ∷ u ∷ []) small p h =
      let is : directive_of t ≡ Some (Ok Ttl) = ap (λ b. if b then None else directive_of_word t.text) p.0 ∙ ap directive_of_word p.1 in
      let spelled : SpellsTtl u.text ttl = subst (λ l. SpellsTtl l ttl) (sym p.3.1) (ttls_are_kind.spelled ttl small) in
      let says : EntryMeans false end (t ∷ u ∷ []) (says_default_ttl (Ok ttl)) =
      subst (λ d. FirstTokenMeans d end t (u ∷ []) (says_default_ttl (Ok ttl))) (sym is) (Ok ttl, [], ((u, refl, says_short_ttl u ttl p.3.0 spelled), refl), refl) in
      let same : h.meaning ≡ says_default_ttl (Ok ttl) = entries_say_once false end (t ∷ u ∷ []) h.meaning (says_default_ttl (Ok ttl)) h.says says in
      let learns : Updates (NewDefaultTtl ttl ∷ []) before after = subst (λ m. Updates (declared_by_entry (first_directive false (t ∷ u ∷ [])) m result) before after) same h.learns in
      known_once before (NewDefaultTtl ttl ∷ []) after (record before { default_ttl = Some ttl }) (learns before [] (starts before)) (default_learned before ttl before [] (starts before))

-- ---- all lines

module _ (room : Room) where
  read_halves : (xs ys : List Line) (first last : State) → AreReadInTurn room first (xs ++ ys) last → (middle : State) × AreReadInTurn room first xs middle × AreReadInTurn room middle ys last
  read_halves [] ys first last h = (first, refl, h)
  read_halves (x ∷ xs) ys first last h = let more = read_halves xs ys h.0 last h.2 in (more.0, (h.0, h.1, more.1), more.2)

  origins_read : (origin : NameState) (first last : State) → origin ≢ Rejected → ((labels : List (List ℕ)) → known_name origin ≡ Some labels → IsWireName (wire labels)) → first.origin ≡ Unset → AreReadInTurn room first (origin_lines origin) last
      → last ≡ record first { origin = origin }
  origins_read Unset first last some name none h = h ∙ (λ i. record first { origin = none i })
  origins_read (Name labels) first last some name none h =
      let l : ReadsHeadLine room first _ h.0 = h.1 in h.2 ∙ origin_read room l.end first h.0 l.old l.new l.result labels l.tokens (name labels refl) l.printed l.reads
  origins_read Rejected first last some name none h = absurd (some refl)

  ttls_read : (default : Option ℕ) (first last : State) → unwrap_or default 0 < 2 ^ 31 → first.default_ttl ≡ None → AreReadInTurn room first (default_ttl_lines default) last → last ≡ record first { default_ttl = default }
  ttls_read None first last small none h = h ∙ (λ i. record first { default_ttl = none i })
  ttls_read (Some ttl) first last small none h =
      let l : ReadsHeadLine room first _ h.0 = h.1 in h.2 ∙ ttl_read room l.end first h.0 l.old l.new l.result ttl l.tokens small l.printed l.reads

  -- after the record, if there is one, its owner and its TTL are the last ones; without an owner nothing has changed
  record Sets (owner : NameState) (last_ttl default : Option ℕ) (before after : State) : Type 0 where
    origin : after.origin ≡ before.origin
    owner_is : owner ≡ after.owner
    default_ttl : after.default_ttl ≡ before.default_ttl
    ttl : default ≡ None → last_ttl ≡ after.last_ttl
    class : after.class ≡ before.class

  or_none : (last default : Option ℕ) (ttl : ℕ) → option_or last default ≡ Some ttl → default ≡ None → last ≡ Some ttl
  or_none (Some l) default ttl h none = h
  or_none None default ttl h none = absurd (none-some ttl (sym none ∙ h))

  module _ {N O : Type 0} where
    record_sets : (owner : NameState) (last default : Option ℕ) (one : Option (Record N O)) (before after : State) → SetsOwner owner last default one → AllByRecursion IsKnownRecord (option_to_list one) → before.origin ≡ Unset → before.owner ≡ Unset → before.last_ttl ≡ None
        → AreReadInTurn room before (map record_tokens (option_to_list one)) after → Sets owner last default before after
    record_sets Unset last default None before after sets known origin owner ttl h = record {
      origin = ap (λ s. s.origin) h;
      owner_is = sym (ap (λ s. s.owner) h ∙ owner);
      default_ttl = ap (λ s. s.default_ttl) h;
      ttl = λ none. sets.1 none ∙ sym (ap (λ s. s.last_ttl) h ∙ ttl);
      class = ap (λ s. s.class) h;
    }
    record_sets Unset last default (Some r) before after sets known origin owner ttl h = absurd (none-some r (sym sets.0))
    record_sets Rejected last default one before after sets known origin owner ttl h = absurd sets
    record_sets (Name labels) last default None before after sets known origin owner ttl h = absurd (none-some sets.0 sets.1)
    record_sets (Name labels) last default (Some r) before after sets known origin owner ttl h =
        let l : ReadsHeadLine room before (record_tokens r) h.0 = h.1 in
        let own = data_of r in
        let same : r ≡ sets.0 = cc in
        let small : r.ttl < 2 ^ 31 = subst (λ x. x.ttl < 2 ^ 31) (sym same) sets.4 in
        let fits : length l.old + length own.octets ≤ room.fits = omega (arith, l.fits, known.0.values.typed.short) in
        let is = known.0.read room l.end l.tokens before h.0 l.old l.new l.result small l.printed (subst (λ o. IsOrigin (known_name o)) (sym origin) tt) fits l.reads in
        let leaves = record_leaves room false l.end l.tokens before h.0 l.old l.new _ _ _ (Explicit r.ttl) r.class own.rtype (subst (λ e. ReadsZoneEntry room false l.end l.tokens before l.old e h.0 l.new) is.1 l.reads) in
        let end : after ≡ h.0 = h.2 in
        record {
          origin = ap (λ s. s.origin) end ∙ leaves.origin;
          owner_is = ap Name (sym sets.2 ∙ ap (λ x. x.owner) (sym same)) ∙ sym is.2 ∙ sym (ap (λ s. s.owner) end);
          default_ttl = ap (λ s. s.default_ttl) end ∙ leaves.ttls.0;
          ttl = λ none. or_none last default sets.0.ttl sets.3 none ∙ ap (λ x. Some x.ttl) (sym same) ∙ sym leaves.ttls.1 ∙ sym (ap (λ s. s.last_ttl) end);
          class = ap (λ s. s.class) end ∙ leaves.class;
        }

pub leads_there : (s : State) (h : StateHead) → ((labels : List (List ℕ)) → known_name s.origin ≡ Some labels → IsWireName (wire labels)) → AllByRecursion IsKnownRecord (option_to_list h.last_record) → SetsState s h → LinesLeadThere s h
leads_there s h name known sets room last reads =
    let start : State = nothing_declared s.class in
    let inner : State = h.state.now in
    let is : inner ≡ s = sets.state_is in
    let lines = map record_tokens (option_to_list h.last_record) in
    let parts = read_halves room (default_ttl_lines inner.default_ttl) (lines ++ origin_lines inner.origin) start last reads in
    let halves = read_halves room lines (origin_lines inner.origin) parts.0 last parts.2 in
    let default : parts.0 ≡ record start { default_ttl = s.default_ttl } =
    ttls_read room s.default_ttl start parts.0 sets.short refl (subst (λ d. AreReadInTurn room start (default_ttl_lines d) parts.0) (ap (λ x. x.default_ttl) is) parts.1) in
    let one = record_sets room s.owner s.last_ttl s.default_ttl h.last_record parts.0 halves.0 sets.owner known (ap (λ x. x.origin) default) (ap (λ x. x.owner) default) (ap (λ x. x.last_ttl) default) halves.1 in
    let end : last ≡ record halves.0 { origin = s.origin } =
    origins_read room s.origin halves.0 last sets.origin name (one.origin ∙ ap (λ x. x.origin) default) (subst (λ o. AreReadInTurn room halves.0 (origin_lines o) last) (ap (λ x. x.origin) is) halves.2) in
    record {
      origin = sym (ap (λ x. x.origin) end);
      owner = one.owner_is ∙ sym (ap (λ x. x.owner) end);
      default_ttl = sym (ap (λ x. x.default_ttl) default) ∙ sym one.default_ttl ∙ sym (ap (λ x. x.default_ttl) end);
      last_ttl = λ none. one.ttl none ∙ sym (ap (λ x. x.last_ttl) end);
      class = sym (ap (λ x. x.class) default) ∙ sym one.class ∙ sym (ap (λ x. x.class) end);
    }
