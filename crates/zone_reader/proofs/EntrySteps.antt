-- The steps in which an entry is read: directives, and the owner of a record.
use Rattle.std.proofs.Common.{ℕ, ◌≡◌, ◌≢◌, List, [], ◌∷◌, ◌++◌, length, drop, Option, Some, None, Result, Ok, Err, refl, sym, subst, ap, ◌∙◌, inl, inr, append-nil, append_assoc, length-append, arith, true, true≢false}
use Rattle.std.specs.Prelude.{slice_get, option_map, is_some}
use Rattle.std.proofs.lemmas.Option.{none-some}
use Rattle.dns_octets.specs.Appending.{Extends}
use Rattle.dns_octets.specs.Room.{Room}
use Rattle.dns_lexer.specs.EntryTokens.{TokenSeen, token_seen}
use Rattle.dns_lexer.specs.declared.entry_tokens.EntryToken.{EntryToken}
use Rattle.rdata_fields.specs.Source.{next_place}
use Rattle.rdata_fields.specs.Parsing.{SpellsField}
use Rattle.rdata_fields.specs.declared.field.Field.TheVariants.{Name as OfName}
use Rattle.dns_wire.specs.Wire.{wire}
use Rattle.rdata_fields.specs.RecordErrors.{error_at}
use Rattle.rdata_fields.specs.declared.record_error.RecordError.{RecordError}
use Rattle.rdata_values.specs.declared.error.ErrorKind.TheVariants.{EndOfEntry}
use Rattle.zone_reader.specs.Arguments.{ExpectsEnd, ParsesFileName}
use Rattle.zone_reader.specs.EntryReading.{IncludesOrigin, ReadsInclude, ReadsOwner, origin_octets, owner_of_record}
use Rattle.zone_reader.specs.EntrySteps.{AppendsFile, FinishesInclude, AppendsFileName, ParsesNextName, ReadsLastInclude, ParsesIncludedOrigin, ParsesLastName, ends_early, only_token, too_many}
use Rattle.zone_reader.specs.Learning.{Updates, ParsesName}
use Rattle.zone_reader.specs.Past.{NamedBy, known_name}
use Rattle.zone_reader.specs.declared.entry.ParsedEntry.{ParsedEntry}
use Rattle.zone_reader.specs.declared.entry.ParsedEntry.TheVariants.{Include}
use Rattle.zone_reader.specs.declared.known.NameState.{NameState}
use Rattle.zone_reader.specs.declared.known.NameState.TheVariants.{Name, Rejected}
use Rattle.zone_reader.specs.declared.state.State.{State}
use Rattle.zone_reader.proofs.Learned.{owner_learned}
use Rattle.zone_reader.proofs.NamesTaken.{no_name}

-- ---- whether a token is left

pub some_left : (o : Option EntryToken) (left : List TokenSeen) → option_map token_seen o ≡ slice_get left 0 → is_some o ≡ true → left ≢ []
some_left o (u ∷ left) h some = λ e. cc
some_left None [] h some = absurd (true≢false (sym some))
some_left (Some t) [] h some = absurd (none-some (token_seen t) (sym h))

module _ (origin : Option (List (List ℕ))) (end : ℕ) where
  -- ---- names

  pub name_passed : (tokens left : List TokenSeen) (labels : List (List ℕ)) → ParsesName origin end tokens (Ok labels) left → ParsesNextName origin end tokens (Ok labels) left
  name_passed tokens left labels h = subst (λ l. ParsesNextName origin end l (Ok labels) left) (sym h.1) (refl, h.2)

  pub refused_passed : (tokens left after : List TokenSeen) (r : RecordError) → ParsesName origin end tokens (Err r) left → after ≡ drop 1 left → ParsesNextName origin end tokens (Err r) after
  refused_passed [] left after r h is = (is ∙ ap (drop 1) h.0, ap Err (h.1 ∙ ap (error_at end) h.2))
  refused_passed (t ∷ ts) left after r h is = (is ∙ ap (drop 1) h.0, (h.1, h.2))

  pub last_ended : (at : ℕ) (tokens : List TokenSeen) → tokens ≡ [] → at ≡ next_place tokens end → ParsesLastName origin end tokens (Err (error_at at EndOfEntry))
  last_ended at [] none is = ap (λ n. Err (error_at n EndOfEntry)) is
  last_ended at (t ∷ ts) none is = cc

  pub last_alone : (tokens left rest : List TokenSeen) (r : Result (List (List ℕ)) RecordError) (u : Unit {0}) → tokens ≢ [] → ParsesNextName origin end tokens r left → ExpectsEnd left (Ok u) rest → ParsesLastName origin end tokens r
  last_alone [] left rest r u some h e = absurd (some refl)
  last_alone (t ∷ []) left rest r u some h e = h.1
  last_alone (t ∷ v ∷ ts) left rest r u some h e = let none : v ∷ ts ≡ [] = sym h.0 ∙ e.0 in cc

  pub last_trailed : (tokens left rest : List TokenSeen) (r : Result (List (List ℕ)) RecordError) (why : RecordError) → ParsesNextName origin end tokens r left → ExpectsEnd left (Err why) rest → ParsesLastName origin end tokens (Err why)
  last_trailed tokens [] rest r why h e = absurd e
  last_trailed [] (u ∷ us) rest r why h e = let none : u ∷ us ≡ [] = h.0 in cc
  last_trailed (t ∷ []) (u ∷ us) rest r why h e = let none : u ∷ us ≡ [] = h.0 in cc
  last_trailed (t ∷ v ∷ ts) (u ∷ us) rest r why h e =
      let both : u ∷ us ≡ v ∷ ts = h.0 in
      let same : u ≡ v = cc in ap Err e.1 ∙ ap (λ x. Err (too_many x)) same

  pub last_named : (tokens : List TokenSeen) (labels : List (List ℕ)) → ParsesLastName origin end tokens (Ok labels) → NamedBy origin (only_token tokens) (Name labels)
  last_named [] labels h = cc
  last_named (t ∷ []) labels h = h
  last_named (t ∷ u ∷ ts) labels h = cc

  pub last_refused : (tokens : List TokenSeen) (r : RecordError) → ParsesLastName origin end tokens (Err r) → NamedBy origin (only_token tokens) Rejected
  last_refused [] r h = tt
  last_refused (t ∷ []) r h = no_name origin (t ∷ []) r.kind h.1
  last_refused (t ∷ u ∷ ts) r h = tt

  -- ---- `$INCLUDE`

  pub none_included : (tokens : List TokenSeen) → tokens ≡ [] → ParsesIncludedOrigin origin end tokens (Ok None)
  none_included tokens none = subst (λ l. ParsesIncludedOrigin origin end l (Ok None)) (sym none) refl

  pub one_included : (tokens : List TokenSeen) (labels : List (List ℕ)) → tokens ≢ [] → ParsesLastName origin end tokens (Ok labels) → ParsesIncludedOrigin origin end tokens (Ok (Some labels))
  one_included [] labels some h = absurd (some refl)
  one_included (t ∷ []) labels some h = h
  one_included (t ∷ u ∷ ts) labels some h = cc

  pub none_is_included : (tokens : List TokenSeen) (r : RecordError) → tokens ≢ [] → ParsesLastName origin end tokens (Err r) → ParsesIncludedOrigin origin end tokens (Err r)
  none_is_included [] r some h = absurd (some refl)
  none_is_included (t ∷ []) r some h = h
  none_is_included (t ∷ u ∷ ts) r some h = let same : r ≡ too_many u = cc in ap Err same

  module _ (room : Room) (old : List ℕ) where
    pub file_passed : (tokens left : List TokenSeen) (n : ℕ) (new : List ℕ) → ParsesFileName room end tokens old (Ok n) left new → AppendsFileName room end tokens old (Ok n) left new
    file_passed tokens left n new h = subst (λ l. AppendsFileName room end l old (Ok n) left new) (sym h.1) (refl, (h.2, h.3))

    pub refused_file : (tokens left after : List TokenSeen) (r : RecordError) (new : List ℕ) → ParsesFileName room end tokens old (Err r) left new → after ≡ drop 1 left → AppendsFileName room end tokens old (Err r) after new
    refused_file [] left after r new h is = (is ∙ ap (drop 1) h.0, ap Err (h.2 ∙ ap (error_at end) h.3), h.1)
    refused_file (t ∷ ts) left after r new h is = (is ∙ ap (drop 1) h.0, (h.1, h.2 ∙ ap (error_at t.at) h.3.0, h.3.1))

    same_extends : (new : List ℕ) → new ≡ old → Extends old new
    same_extends new is = ([], is ∙ sym (append-nil old))

    file_extends : (tokens left : List TokenSeen) (r : Result ℕ RecordError) (new : List ℕ) → AppendsFileName room end tokens old r left new → Extends old new
    file_extends [] left r new h = same_extends new h.2
    file_extends (t ∷ ts) left (Ok n) new h = (t.text, h.1.0)
    file_extends (t ∷ ts) left (Err e) new h = same_extends new h.1.0

    -- the origin's octets after the file's
    included : (begin : ℕ) (f : TokenSeen) (token : Option TokenSeen) (named : Option (List (List ℕ))) (n : ℕ) (middle new : List ℕ) (r : Result ParsedEntry RecordError) → AppendsFile room f old (Ok n) middle
        → IncludesOrigin origin token named → FinishesInclude room begin end f.at n named middle r new → Extends old new × ReadsInclude origin room begin end f.at f.text token old r new
    included begin f token named n middle new (Ok e) h k l =
        let both : new ≡ old ++ (f.text ++ origin_octets named) = l.1 ∙ ap (λ o. o ++ origin_octets named) h.0 ∙ append_assoc old f.text (origin_octets named) in
        ((f.text ++ origin_octets named, both), (named, l.0 ∙ ap (λ m. Include begin end m (is_some named)) h.1, k, both))
    included begin f token named n middle new (Err r) h k l =
        ((f.text, l.0 ∙ h.0), inr (named, k, l.1, omega (arith, l.2, ap length h.0, length-append old f.text)))

    pub include_finished : (begin : ℕ) (tokens left : List TokenSeen) (at n : ℕ) (named : Option (List (List ℕ))) (middle new : List ℕ) (r : Result ParsedEntry RecordError) → at ≡ next_place tokens end → AppendsFileName room end tokens old (Ok n) left middle
        → ParsesIncludedOrigin origin end left (Ok named) → FinishesInclude room begin end at n named middle r new → ReadsLastInclude origin room begin end tokens old r new
    include_finished begin [] left at n named middle new r is h k l = let no = h.1 in cc
    include_finished begin (f ∷ []) left at n named middle new r is h k l =
        included begin f None named n middle new r h.1 (subst (λ x. ParsesIncludedOrigin origin end x (Ok named)) h.0 k) (subst (λ m. FinishesInclude room begin end m n named middle r new) is l)
    include_finished begin (f ∷ t ∷ []) left at n named middle new r is h k l =
        included begin f (Some t) named n middle new r h.1 (subst (λ x. ParsesIncludedOrigin origin end x (Ok named)) h.0 k) (subst (λ m. FinishesInclude room begin end m n named middle r new) is l)
    include_finished begin (f ∷ t ∷ v ∷ ts) left at n named middle new r is h k l = let no = subst (λ x. ParsesIncludedOrigin origin end x (Ok named)) h.0 k in cc

    -- the file's octets don't fit
    lacks : (begin : ℕ) (f : TokenSeen) (token : Option TokenSeen) (named : Option (List (List ℕ))) (new : List ℕ) (r : RecordError) → AppendsFile room f old (Err r) new → IncludesOrigin origin token named
        → Extends old new × ReadsInclude origin room begin end f.at f.text token old (Err r) new
    lacks begin f token named new r h k = (same_extends new h.0, inr (named, k, h.1, omega (arith, h.2)))

    pub include_lacks : (begin : ℕ) (tokens left : List TokenSeen) (r : RecordError) (named : Option (List (List ℕ))) (new : List ℕ) → AppendsFileName room end tokens old (Err r) left new → ParsesIncludedOrigin origin end left (Ok named)
        → ReadsLastInclude origin room begin end tokens old (Err r) new
    include_lacks begin [] left r named new h k = let same : r ≡ ends_early end = cc in (file_extends [] left (Err r) new h, ap Err same)
    include_lacks begin (f ∷ []) left r named new h k = lacks begin f None named new r h.1 (subst (λ l. ParsesIncludedOrigin origin end l (Ok named)) h.0 k)
    include_lacks begin (f ∷ t ∷ []) left r named new h k = lacks begin f (Some t) named new r h.1 (subst (λ l. ParsesIncludedOrigin origin end l (Ok named)) h.0 k)
    include_lacks begin (f ∷ t ∷ v ∷ ts) left r named new h k = let no = subst (λ l. ParsesIncludedOrigin origin end l (Ok named)) h.0 k in cc

    pub include_refused : (begin : ℕ) (tokens left : List TokenSeen) (file : Result ℕ RecordError) (r : RecordError) (new : List ℕ) → AppendsFileName room end tokens old file left new → ParsesIncludedOrigin origin end left (Err r)
        → ReadsLastInclude origin room begin end tokens old (Err r) new
    include_refused begin [] left file r new h k = absurd (subst (λ l. ParsesIncludedOrigin origin end l (Err r)) h.0 k)
    include_refused begin (f ∷ []) left file r new h k = absurd (subst (λ l. ParsesIncludedOrigin origin end l (Err r)) h.0 k)
    include_refused begin (f ∷ t ∷ []) left file r new h k =
        (file_extends (f ∷ t ∷ []) left file new h, inl (subst (λ l. ParsesIncludedOrigin origin end l (Err r)) h.0 k))
    include_refused begin (f ∷ t ∷ v ∷ ts) left file r new h k =
        let e = subst (λ l. ParsesIncludedOrigin origin end l (Err r)) h.0 k in
        let same : r ≡ too_many v = cc in (file_extends (f ∷ t ∷ v ∷ ts) left file new h, ap Err same)

-- ---- owners

module _ (before : State) (end : ℕ) where
  pub left_behind : (origin : Option (List (List ℕ))) (tokens left : List TokenSeen) (r : Result (List (List ℕ)) RecordError) → ParsesNextName origin end tokens r left → left ≡ drop 1 tokens
  left_behind origin [] left r h = h.0
  left_behind origin (t ∷ ts) left r h = h.0

  pub owner_passed : (tokens left : List TokenSeen) (labels : List (List ℕ)) → ParsesNextName (known_name before.origin) end tokens (Ok labels) left → tokens ≢ []
      → ReadsOwner before (next_place tokens end) (slice_get tokens 0) (Ok tt) (Name labels)
  owner_passed [] left labels h some = absurd (some refl)
  owner_passed (t ∷ ts) left labels h some = (labels, refl, h.1)

  pub owner_refused : (tokens left : List TokenSeen) (r : RecordError) → ParsesNextName (known_name before.origin) end tokens (Err r) left → tokens ≢ []
      → ReadsOwner before (next_place tokens end) (slice_get tokens 0) (Err r) Rejected
  owner_refused [] left r h some = absurd (some refl)
  owner_refused (t ∷ ts) left r h some = (refl, h.1)

  pub passed_learned : (tokens left : List TokenSeen) (labels : List (List ℕ)) → ParsesNextName (known_name before.origin) end tokens (Ok labels) left → tokens ≢ []
      → Updates (owner_of_record (slice_get tokens 0)) before (record before { owner = Name labels })
  passed_learned [] left labels h some = absurd (some refl)
  passed_learned (t ∷ ts) left labels h some = owner_learned before (Some t) (Name labels) h.1

  pub refused_learned : (tokens left : List TokenSeen) (r : RecordError) → ParsesNextName (known_name before.origin) end tokens (Err r) left → tokens ≢ []
      → Updates (owner_of_record (slice_get tokens 0)) before (record before { owner = Rejected })
  refused_learned [] left r h some = absurd (some refl)
  refused_learned (t ∷ ts) left r h some = owner_learned before (Some t) Rejected (no_name (known_name before.origin) (t ∷ []) r.kind h.1.1)

  -- the same of a name that is stored as it is parsed
  pub known_owner : (tokens left : List TokenSeen) (known : NameState) (labels : List (List ℕ)) (u : Unit {0}) → known ≡ Name labels → ParsesNextName (known_name before.origin) end tokens (Ok labels) left → tokens ≢ []
      → ReadsOwner before (next_place tokens end) (slice_get tokens 0) (Ok u) known
  known_owner [] left known labels u is h some = absurd (some refl)
  known_owner (t ∷ ts) left known labels u is h some = (labels, is, h.1)

  pub known_learned : (tokens left : List TokenSeen) (known : NameState) (labels : List (List ℕ)) → known ≡ Name labels → ParsesNextName (known_name before.origin) end tokens (Ok labels) left → tokens ≢ []
      → Updates (owner_of_record (slice_get tokens 0)) before (record before { owner = known })
  known_learned tokens left known labels is h some = subst (λ (k : NameState). Updates (owner_of_record (slice_get tokens 0)) before (record before { owner = k })) (sym is) (passed_learned tokens left labels h some)

  pub refused_owner : (tokens left : List TokenSeen) (known : NameState) (r : RecordError) → known ≡ Rejected → ParsesNextName (known_name before.origin) end tokens (Err r) left → tokens ≢ []
      → ReadsOwner before (next_place tokens end) (slice_get tokens 0) (Err r) known
  refused_owner tokens left known r is h some = subst (λ (k : NameState). ReadsOwner before (next_place tokens end) (slice_get tokens 0) (Err r) k) (sym is) (owner_refused tokens left r h some)

  pub refusal_learned : (tokens left : List TokenSeen) (known : NameState) (r : RecordError) → known ≡ Rejected → ParsesNextName (known_name before.origin) end tokens (Err r) left → tokens ≢ []
      → Updates (owner_of_record (slice_get tokens 0)) before (record before { owner = known })
  refusal_learned tokens left known r is h some = subst (λ (k : NameState). Updates (owner_of_record (slice_get tokens 0)) before (record before { owner = k })) (sym is) (refused_learned tokens left r h some)

-- ---- a token that is parsed as a name, or rejected and then skipped

pub passes_taken : (origin : Option (List (List ℕ))) (end : ℕ) (tokens left : List TokenSeen) (labels : List (List ℕ)) → ParsesName origin end tokens (Ok labels) left → ParsesNextName origin end tokens (Ok labels) left
passes_taken origin end [] left labels h = let no = h.1 in cc
passes_taken origin end (t ∷ ts) left labels h =
    let first : t ≡ h.0 = cc in
    let rest : ts ≡ left = cc in (sym rest, subst (λ x. SpellsField origin OfName x (wire labels)) (sym first) h.2)

pub passes_refused : (origin : Option (List (List ℕ))) (end : ℕ) (tokens left after : List TokenSeen) (e : RecordError) → ParsesName origin end tokens (Err e) left → after ≡ drop 1 left → ParsesNextName origin end tokens (Err e) after
passes_refused origin end [] left after e h skipped = (skipped ∙ ap (drop 1) h.0, ap Err (h.1 ∙ ap (error_at end) h.2))
passes_refused origin end (t ∷ ts) left after e h skipped = (skipped ∙ ap (drop 1) h.0, (h.1, h.2))
