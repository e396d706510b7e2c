-- The state after a text.
use Rattle.std.proofs.Common.{ℕ, ◌≡◌, List, [], ◌∷◌, ◌++◌, Option, Some, None, refl, sym, subst, ap, ◌∙◌, inl}
use Rattle.dns_wire.specs.Wire.{wire}
use Rattle.dns_wire.specs.Labelled.{wire_same}
use Rattle.dns_lexer.specs.EntryTokens.{TokenSeen}
use Rattle.rdata_tokens.specs.NameSpelling.{SpellsLabels, root_alone, origin_alone, absolute, relative, SpellsName}
use Rattle.rdata_tokens.proofs.NameLaws.{names_spelled}
use Rattle.std.proofs.lemmas.Option.{none-some}
use Rattle.rdata_fields.specs.Parsing.{SpellsField}
use Rattle.rdata_fields.specs.declared.field.Field.TheVariants.{Name as OfName}
use Rattle.rdata_fields.proofs.Refused.{field_once}
use Rattle.zone_reader.specs.Past.{Declared, NewOrigin, NewOwner, NewDefaultTtl, NewTtl, origin_declared, owner_declared, default_ttl_declared, ttl_declared, NoneDeclared, DeclaredLast, NamedBy, known_name, IsOriginAfter, no_origin_said, origin_said_last, IsOwnerAfter, no_owner_said, owner_said_last, IsRecordTtl, StateAfter, ttls_declared}
use Rattle.zone_reader.specs.Learning.{IsMarkAfter}
use Rattle.zone_reader.specs.PastLaws.{OwnersAreIndependent, TtlsAreIndependent}
use Rattle.zone_reader.specs.declared.known.NameState.{NameState}
use Rattle.zone_reader.specs.declared.known.NameState.TheVariants.{Unset, Name, Rejected}
use Rattle.zone_reader.specs.declared.state.IncludeScope.{IncludeScope}
use Rattle.zone_reader.specs.declared.state.State.{State}
use Rattle.zone_reader.specs.declared.ttl.RecordTtl.{RecordTtl}
use Rattle.zone_reader.specs.declared.ttl.RecordTtl.TheVariants.{Explicit, Default, Last, Minimum}
use Rattle.zone_reader.proofs.Pasts.{silent_both, not_both, said_behind, said_then, said_alone, said_once, ttl_once, ttl_on, ttl_kept, default_stays, last_stays}

-- ---- a token names one thing

names_same : (origin : Option (List (List ℕ))) (t : TokenSeen) (a b : List (List ℕ)) → SpellsField origin OfName t (wire a) → SpellsField origin OfName t (wire b) → a ≡ b
names_same origin t a b h k = wire_same a b (field_once origin OfName t (wire a) (wire b) h k)

pub named_once : (origin : Option (List (List ℕ))) (token : Option TokenSeen) (a b : NameState) → NamedBy origin token a → NamedBy origin token b → a ≡ b
named_once origin None Unset b h k = absurd h
named_once origin None (Name l) b h k = absurd h
named_once origin None Rejected Unset h k = absurd k
named_once origin None Rejected (Name m) h k = absurd k
named_once origin None Rejected Rejected h k = refl
named_once origin (Some t) Unset b h k = absurd h
named_once origin (Some t) (Name l) Unset h k = absurd k
named_once origin (Some t) (Name l) (Name m) h k = ap Name (names_same origin t l m h k)
named_once origin (Some t) (Name l) Rejected h k = absurd (k (wire l) h)
named_once origin (Some t) Rejected Unset h k = absurd k
named_once origin (Some t) Rejected (Name m) h k = absurd (h (wire m) k)
named_once origin (Some t) Rejected Rejected h k = refl

-- ---- one state is left

module _ (start : State) where
  named_alike : (past other : List Declared) (before there a b : NameState) (token mark : Option TokenSeen) → token ≡ mark → before ≡ there → NamedBy (known_name before) token a → NamedBy (known_name there) mark b → a ≡ b
  named_alike past other before there a b token mark e f h k =
      named_once (known_name there) mark a b (subst (λ o. NamedBy (known_name o) mark a) f (subst (λ t. NamedBy (known_name before) t a) e h)) k

  pub origin_once : (past : List Declared) (a b : NameState) → IsOriginAfter start past a → IsOriginAfter start past b → a ≡ b
  origin_once past a b (no_origin_said p o quiet is) (no_origin_said q r still and_is) = is ∙ sym and_is
  origin_once past a b (no_origin_said p o quiet is) (origin_said_last q r token last before was named) = absurd (not_both origin_declared past token quiet last)
  origin_once past a b (origin_said_last p o token last before was named) (no_origin_said q r quiet is) = absurd (not_both origin_declared past token quiet last)
  origin_once past a b (origin_said_last p o token last before was named) (origin_said_last q r mark there old stood means) =
      let same = said_once origin_declared past token mark last there in
      let old_is = origin_once last.before before old was (subst (λ l. IsOriginAfter start l old) (sym same.0) stood) in
      named_alike last.before there.before before old a b token mark same.1 old_is named means

  pub owner_once : (past : List Declared) (a b : NameState) → IsOwnerAfter start past a → IsOwnerAfter start past b → a ≡ b
  owner_once past a b (no_owner_said quiet is) (no_owner_said still and_is) = is ∙ sym and_is
  owner_once past a b (no_owner_said quiet is) (owner_said_last token last before was named) = absurd (not_both owner_declared past token quiet last)
  owner_once past a b (owner_said_last token last before was named) (no_owner_said quiet is) = absurd (not_both owner_declared past token quiet last)
  owner_once past a b (owner_said_last token last before was named) (owner_said_last mark there old stood means) =
      let same = said_once owner_declared past token mark last there in
      let old_is = origin_once last.before before old was (subst (λ l. IsOriginAfter start l old) (sym same.0) stood) in
      named_alike last.before there.before before old a b token mark same.1 old_is named means

  pub known_once : (past : List Declared) (a b : State) → StateAfter start past a → StateAfter start past b → a ≡ b
  known_once past a b h k =
      let origin = origin_once past a.origin b.origin h.origin k.origin in
      let owner = owner_once past a.owner b.owner h.owner k.owner in
      let default = ttl_once default_ttl_declared start.default_ttl past a.default_ttl b.default_ttl h.default_ttl k.default_ttl in
      let last = ttl_once ttl_declared start.last_ttl past a.last_ttl b.last_ttl h.last_ttl k.last_ttl in
      let class = h.class ∙ sym k.class in
      λ i. record { origin = origin i; owner = owner i; default_ttl = default i; last_ttl = last i; class = class i }

  pub starts : StateAfter start [] start
  starts = record {
    origin = no_origin_said [] start.origin tt refl;
    owner = no_owner_said tt refl;
    default_ttl = inl (tt, refl);
    last_ttl = inl (tt, refl);
    class = refl;
  }

  -- ---- nothing of the kind comes later

  pub origin_then : (past later : List Declared) (o : NameState) → IsOriginAfter start past o → NoneDeclared origin_declared later → IsOriginAfter start (past ++ later) o
  origin_then past later o (no_origin_said p q quiet is) still = no_origin_said (past ++ later) o (silent_both origin_declared past later quiet still) is
  origin_then past later o (origin_said_last p q token last before was named) still =
      origin_said_last (past ++ later) o token (said_then origin_declared past later token last still) before was named

  pub owner_then : (past later : List Declared) (o : NameState) → IsOwnerAfter start past o → NoneDeclared owner_declared later → IsOwnerAfter start (past ++ later) o
  owner_then past later o (no_owner_said quiet is) still = no_owner_said (silent_both owner_declared past later quiet still) is
  owner_then past later o (owner_said_last token last before was named) still =
      owner_said_last token (said_then owner_declared past later token last still) before was named

  -- ---- a text that continues

  module _ (middle : State) (past : List Declared) (known : StateAfter start past middle) where
    pub origin_on : (later : List Declared) (o : NameState) → IsOriginAfter middle later o → IsOriginAfter start (past ++ later) o
    origin_on later o (no_origin_said p q quiet is) = origin_then past later o (subst (IsOriginAfter start past) (sym is) known.origin) quiet
    origin_on later o (origin_said_last p q token last before was named) =
        origin_said_last (past ++ later) o token (said_behind origin_declared past later token last) before (origin_on last.before before was) named

    pub owner_on : (later : List Declared) (o : NameState) → IsOwnerAfter middle later o → IsOwnerAfter start (past ++ later) o
    owner_on later o (no_owner_said quiet is) = owner_then past later o (subst (IsOwnerAfter start past) (sym is) known.owner) quiet
    owner_on later o (owner_said_last token last before was named) =
        owner_said_last token (said_behind owner_declared past later token last) before (origin_on last.before before was) named

    pub known_on : (later : List Declared) (end : State) → StateAfter middle later end → StateAfter start (past ++ later) end
    known_on later end h = record {
      origin = origin_on later end.origin h.origin;
      owner = owner_on later end.owner h.owner;
      default_ttl = ttl_on default_ttl_declared start.default_ttl middle.default_ttl end.default_ttl past later known.default_ttl h.default_ttl;
      last_ttl = ttl_on ttl_declared start.last_ttl middle.last_ttl end.last_ttl past later known.last_ttl h.last_ttl;
      class = h.class ∙ known.class;
    }

  -- ---- after an included text

  no_origins : (past : List Declared) → NoneDeclared origin_declared (ttls_declared past)
  no_origins [] = tt
  no_origins (NewOrigin token ∷ past) = no_origins past
  no_origins (NewOwner token ∷ past) = no_origins past
  no_origins (NewDefaultTtl ttl ∷ past) = (refl, no_origins past)
  no_origins (NewTtl ttl ∷ past) = (refl, no_origins past)

  no_owners : (past : List Declared) → NoneDeclared owner_declared (ttls_declared past)
  no_owners [] = tt
  no_owners (NewOrigin token ∷ past) = no_owners past
  no_owners (NewOwner token ∷ past) = no_owners past
  no_owners (NewDefaultTtl ttl ∷ past) = (refl, no_owners past)
  no_owners (NewTtl ttl ∷ past) = (refl, no_owners past)

  pub restored : (past included : List Declared) (mark : IncludeScope) (old : State) → IsMarkAfter start past mark → StateAfter start (past ++ included) old
      → StateAfter start (past ++ ttls_declared included) (record old { origin = mark.origin; owner = mark.owner })
  restored past included mark old h k = record {
    origin = origin_then past (ttls_declared included) mark.origin h.origin (no_origins included);
    owner = owner_then past (ttls_declared included) mark.owner h.owner (no_owners included);
    default_ttl = ttl_kept default_ttl_declared start.default_ttl old.default_ttl past included (ttls_declared included) (λ m. default_stays m included) k.default_ttl;
    last_ttl = ttl_kept ttl_declared start.last_ttl old.last_ttl past included (ttls_declared included) (λ m. last_stays m included) k.last_ttl;
    class = k.class;
  }

-- ---- owners that don't depend on earlier entries

labels_alone : (origin : Option (List (List ℕ))) (text : List ℕ) (labels : List (List ℕ)) → SpellsLabels None text labels → SpellsLabels origin text labels
labels_alone origin text labels (root_alone is are) = root_alone is are
labels_alone origin text labels (origin_alone is none) = absurd (none-some labels none)
labels_alone origin text labels (absolute parts some spelled are) = absolute parts some spelled are
labels_alone origin text labels (relative parts last others some spelled no_at none are) = absurd (none-some others none)

pub name_alone : (origin : Option (List (List ℕ))) (text form : List ℕ) → SpellsName None text form → SpellsName origin text form
name_alone origin text form h = record { labels = h.labels; spelled = labels_alone origin text h.labels h.spelled; is_name = h.is_name; absolute = h.absolute; whole = h.whole }

alone : (t : TokenSeen) (labels : List (List ℕ)) (start : State) (past : List Declared) (owner : NameState) → SpellsField None OfName t (wire labels)
    → IsOwnerAfter start (past ++ (NewOwner (Some t) ∷ [])) owner → owner ≡ Name labels
alone t labels start past owner h (no_owner_said quiet is) =
    absurd (not_both owner_declared (past ++ (NewOwner (Some t) ∷ [])) (Some t) quiet (said_behind owner_declared past (NewOwner (Some t) ∷ []) (Some t) (said_alone owner_declared (NewOwner (Some t)) (Some t) refl)))
alone t labels start past owner h (owner_said_last token last before was named) =
    let said : DeclaredLast owner_declared (past ++ (NewOwner (Some t) ∷ [])) (Some t) = said_behind owner_declared past (NewOwner (Some t) ∷ []) (Some t) (said_alone owner_declared (NewOwner (Some t)) (Some t) refl) in
    let same = said_once owner_declared (past ++ (NewOwner (Some t) ∷ [])) token (Some t) last said in
    named_once (known_name before) (Some t) owner (Name labels) (subst (λ o. NamedBy (known_name before) o owner) same.1 named) (h.0, name_alone (known_name before) t.text (wire labels) h.1)

pub owners_alone : OwnersAreIndependent
owners_alone = record {
  absolute = alone;
  printed = λ t labels start past owner name plain text h. alone t labels start past owner (plain, subst (λ l. SpellsName None l (wire labels)) (sym text) ((names_spelled None tt).back (wire labels) name)) h;
}

ttl_alone : (start : State) (past : List Declared) (own : ℕ) (minimum : Option ℕ) (ttl : Option RecordTtl) → IsRecordTtl start past (Some own) minimum ttl → ttl ≡ Some (Explicit own)
ttl_alone start past own minimum None h = absurd (none-some own (sym h.0))
ttl_alone start past own minimum (Some (Explicit ttl)) h = let same : own ≡ ttl = cc in ap (λ n. Some (Explicit n)) (sym same)
ttl_alone start past own minimum (Some (Default ttl)) h = absurd (none-some own (sym h.0))
ttl_alone start past own minimum (Some (Last ttl)) h = absurd (none-some own (sym h.0))
ttl_alone start past own minimum (Some (Minimum ttl)) h = absurd (none-some own (sym h.0))

pub ttls_alone : TtlsAreIndependent
ttls_alone = ttl_alone
