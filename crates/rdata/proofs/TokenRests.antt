-- Tokens of one form, one after another, and a token before others.
use Rattle.std.proofs.Common.{ℕ, ◌≡◌, ◌≢◌, ◌≤◌, ◌<◌, ◌+◌, List, [], ◌∷◌, ◌++◌, length, refl, sym, ap, subst, ◌∙◌, inl, inr, arith, append-nil, length-append}
use Rattle.std.proofs.lemmas.List.{append_assoc}
use Rattle.std.specs.Prelude.{Result, Ok, Err}
use Rattle.dns_octets.specs.Room.{Room}
use Rattle.dns_octets.specs.Appending.{Extends, Gains, ExceedsRoom}
use Rattle.rdata_fields.specs.Source.{next_place}
use Rattle.dns_lexer.specs.EntryTokens.{TokenSeen}
use Rattle.rdata.specs.Rests.{RestForm, ExceedsWhole, RefusesAs, RefusesRest, ParsesTail}
use Rattle.rdata.specs.TokenForms.{TokenForm, RefusesTokenAs, ParsesTokenAs, SpellOctets, each_form, SpellsThen, ExceedsThen, ThenReason, then_form}
use Rattle.rdata_fields.specs.RecordErrors.{error_at}
use Rattle.rdata_fields.specs.declared.record_error.RecordError.{RecordError}
use Rattle.rdata_values.specs.declared.error.ErrorKind.{ErrorKind}
use Rattle.rdata.proofs.ErrorPlaces.{placed, moved}

-- a token spells octets in one way
abbrev pub SpelledOnce : (TokenSeen → List ℕ → Type 0) → Type 0
SpelledOnce Spells = (t : TokenSeen) (a b : List ℕ) → Spells t a → Spells t b → a ≡ b

-- a beginning of a token spells no more octets than the token does
abbrev pub BegunWithin : (TokenSeen → List ℕ → Type 0) → (TokenSeen → List ℕ → Type 0) → Type 0
BegunWithin Begins Spells = (t : TokenSeen) (front octets : List ℕ) → Begins t front → Spells t octets → length front ≤ length octets

pub whole_within : (Spells : TokenSeen → List ℕ → Type 0) → SpelledOnce Spells → BegunWithin Spells Spells
whole_within Spells once t front octets h k = let same = ap length (once t front octets h k) in omega (arith, same)

-- what is parsed by one relation is parsed by another that is equivalent
pub as_other : (Begins Begun Spells Others : TokenSeen → List ℕ → Type 0) (Reason Why : TokenSeen → ErrorKind → Type 0) (room : Room) (end : ℕ) (tokens : List TokenSeen) (old : List ℕ) (r : Result (Unit {0}) RecordError) (left : List TokenSeen) (new : List ℕ)
    → ((t : TokenSeen) (octets : List ℕ) → Begins t octets → Begun t octets) → ((t : TokenSeen) (octets : List ℕ) → Spells t octets → Others t octets) → ((t : TokenSeen) (octets : List ℕ) → Others t octets → Spells t octets) → ((t : TokenSeen) (e : ErrorKind) → Reason t e → Why t e)
    → ParsesTokenAs room Begins Spells Reason end tokens old r left new → ParsesTokenAs room Begun Others Why end tokens old r left new
as_other Begins Begun Spells Others Reason Why room end tokens old (Ok x) left new begun to from why h = (h.0, h.1, (h.2.0, to h.0 h.2.0 h.2.1, h.2.2))
as_other Begins Begun Spells Others Reason Why room end [] old (Err r) left new begun to from why h = h
as_other Begins Begun Spells Others Reason Why room end (t ∷ ts) old (Err r) left new begun to from why h = (h.0, h.1, refused h.2, h.3)
  where
    refused : RefusesTokenAs room Begins Spells Reason (t ∷ ts) old r.kind → RefusesTokenAs room Begun Others Why (t ∷ ts) old r.kind
    refused (inl short) = inl (short.0, (short.1.0, begun t short.1.0 short.1.1, short.1.2))
    refused (inr bad) = inr (why t r.kind bad.0, λ octets sp. bad.1 octets (from t octets sp))

-- the next token is rejected, and no token is read
pub next_refused : (Begins Spells : TokenSeen → List ℕ → Type 0) (Reason : TokenSeen → ErrorKind → Type 0) (room : Room) (end at : ℕ) (tokens : List TokenSeen) (t : TokenSeen) (ts : List TokenSeen) (old new : List ℕ) (e : ErrorKind) → tokens ≡ t ∷ ts
    → at ≡ next_place tokens end → RefusesTokenAs room Begins Spells Reason (t ∷ ts) old e → Extends old new → ParsesTokenAs room Begins Spells Reason end tokens old (Err (error_at at e)) tokens new
next_refused Begins Spells Reason room end at tokens t ts old new e is place why extends = (refl, placed e place, subst (λ l. RefusesTokenAs room Begins Spells Reason l old e) (sym is) why, extends)

-- all tokens are read, and the octets that they spell exceed the room
pub whole_exceeded : (Spell : List TokenSeen → List ℕ → Type 0) → ((tokens : List TokenSeen) (a b : List ℕ) → Spell tokens a → Spell tokens b → a ≡ b) → (room : Room) (tokens left : List TokenSeen) (old octets : List ℕ) → ExceedsWhole Spell room tokens left old
    → Spell tokens octets → room.fits < length old + length octets
whole_exceeded Spell once room tokens left old octets h sp = let same = ap length (once tokens h.1.0 octets h.1.1 sp) in omega (arith, h.1.2, same)

-- ---- any number of tokens

pub record HasEach (f : TokenForm) (tokens : List TokenSeen) (old : List ℕ) (left : List TokenSeen) (new : List ℕ) : Type 0 where
  pub before : List TokenSeen
  pub octets : List ℕ
  pub whole : tokens ≡ before ++ left
  pub spelled : SpellOctets f before octets
  pub gained : new ≡ old ++ octets

module _ (f : TokenForm) where
  pub none_yet : (tokens : List TokenSeen) (old : List ℕ) → HasEach f tokens old tokens old
  none_yet tokens old = record { before = []; octets = []; whole = refl; spelled = refl; gained = sym (append-nil old) }

  spells_last : (before : List TokenSeen) (octets : List ℕ) (t : TokenSeen) (more : List ℕ) → SpellOctets f before octets → f.spells t more → SpellOctets f (before ++ t ∷ []) (octets ++ more)
  spells_last [] octets t more h k = (more, [], ap (λ o. o ++ more) h ∙ sym (append-nil more), k, refl)
  spells_last (b ∷ bs) octets t more h k = (h.0, h.1 ++ more, ap (λ o. o ++ more) h.2 ∙ append_assoc h.0 h.1 more, h.3, spells_last bs h.1 t more h.4 k)

  pub each_more : (tokens left rest : List TokenSeen) (old middle new : List ℕ) → HasEach f tokens old left middle → (t : TokenSeen) × (left ≡ t ∷ rest) × Gains (f.spells t) middle new → HasEach f tokens old rest new
  each_more tokens left rest old middle new h k = let t = k.0 in let g = k.2 in record {
    before = h.before ++ t ∷ [];
    octets = h.octets ++ g.0;
    whole = h.whole ∙ ap (λ l. h.before ++ l) k.1 ∙ sym (append_assoc h.before (t ∷ []) rest);
    spelled = spells_last h.before h.octets t g.0 h.spelled g.1;
    gained = g.2 ∙ ap (λ o. o ++ g.0) h.gained ∙ append_assoc old h.octets g.0;
  }

  pub all_each : (tokens left : List TokenSeen) (old new : List ℕ) → HasEach f tokens old left new → left ≡ [] → Gains (SpellOctets f tokens) old new
  all_each tokens left old new h none =
      (h.octets, subst (λ ts. SpellOctets f ts h.octets) (sym (h.whole ∙ ap (λ l. h.before ++ l) none ∙ append-nil h.before)) h.spelled, h.gained)

  module _ (once : SpelledOnce f.spells) where
    pub each_once : (tokens : List TokenSeen) (a b : List ℕ) → SpellOctets f tokens a → SpellOctets f tokens b → a ≡ b
    each_once [] a b h k = h ∙ sym k
    each_once (t ∷ ts) a b h k = h.2 ∙ ap (λ o. o ++ h.1) (once t h.0 k.0 h.3 k.3) ∙ ap (λ o. k.0 ++ o) (each_once ts h.1 k.1 h.4 k.4) ∙ sym k.2

    -- what tokens spell continues what the first of them do
    goes_on : (before ts : List TokenSeen) (t : TokenSeen) (o octets : List ℕ) → SpellOctets f before o → SpellOctets f (before ++ t ∷ ts) octets → (mid : List ℕ) × (back : List ℕ) × (octets ≡ o ++ (mid ++ back)) × f.spells t mid
    goes_on [] ts t o octets h k = (k.0, k.1, k.2 ∙ ap (λ z. z ++ (k.0 ++ k.1)) (sym h), k.3)
    goes_on (b ∷ bs) ts t o octets h k =
        let later = goes_on bs ts t h.1 k.1 h.4 k.4 in
        let mid : List ℕ = later.0 in
        let back : List ℕ = later.1 in
        let front : k.0 ≡ h.0 = once b k.0 h.0 k.3 h.3 in
        (mid, back, k.2 ∙ ap (λ z. z ++ k.1) front ∙ ap (λ z. h.0 ++ z) later.2 ∙ sym (append_assoc h.0 h.1 (mid ++ back)) ∙ ap (λ z. z ++ (mid ++ back)) (sym h.2), later.3)

    refused_each : (room : Room) (tokens ts : List TokenSeen) (t : TokenSeen) (old middle : List ℕ) (e : ErrorKind) → HasEach f tokens old (t ∷ ts) middle → RefusesTokenAs room f.begins f.spells f.reason (t ∷ ts) middle e
        → RefusesAs room (each_form f) tokens old (t ∷ ts) e
    refused_each room tokens ts t old middle e h (inl short) = inl (short.0, (h.before, h.octets, h.whole, h.spelled, subst (ExceedsRoom room (f.begins t)) h.gained short.1))
    refused_each room tokens ts t old middle e h (inr bad) =
        inr (
          (h.before, h.whole, ((h.octets, h.spelled), bad.0, bad.1)),
          λ octets sp. (
              let on = goes_on h.before ts t h.octets octets h.spelled (subst (λ z. SpellOctets f z octets) h.whole sp) in
              bad.1 on.0 on.3
              ),
        )

    pub each_exceeded : BegunWithin f.begins f.spells → (room : Room) (tokens left : List TokenSeen) (old octets : List ℕ) → (each_form f).exceeds room tokens left old → SpellOctets f tokens octets
        → room.fits < length old + length octets
    each_exceeded within room tokens [] old octets h sp = absurd h
    each_exceeded within room tokens (t ∷ ts) old octets h sp =
        let before : List TokenSeen = h.0 in
        let o : List ℕ = h.1 in
        let on = goes_on before ts t o octets h.3 (subst (λ z. SpellOctets f z octets) h.2 sp) in
        let few = within t h.4.0 on.0 h.4.1 on.3 in
        let all = ap length on.2 ∙ length-append o (on.0 ++ on.1) in
        omega (arith, h.4.2, few, all, length-append old o, length-append on.0 on.1)

    pub each_refused : (room : Room) (begun end : ℕ) (tokens left rest : List TokenSeen) (old middle new : List ℕ) (r : RecordError) → HasEach f tokens old left middle → end ≡ begun → left ≢ []
        → ParsesTokenAs room f.begins f.spells f.reason end left middle (Err r) rest new → RefusesRest room (each_form f) begun tokens old r rest new
    each_refused room begun end tokens [] rest old middle new r h ends some k = absurd (some refl)
    each_refused room begun end tokens (t ∷ ts) rest old middle new r h ends some k = record {
      at = moved r k.1 (ap (λ l. next_place l end) (sym k.0) ∙ ap (next_place rest) ends);
      why = subst (λ l. RefusesAs room (each_form f) tokens old l r.kind) (sym k.0) (refused_each room tokens ts t old middle r.kind h k.2);
      extends = (h.octets ++ k.3.0, k.3.1 ∙ ap (λ o. o ++ k.3.0) h.gained ∙ append_assoc old h.octets k.3.0);
    }

-- ---- a token, and others after it

module _ (f : TokenForm) (behind : List ℕ → RestForm) where
  pub then_once : SpelledOnce f.spells → ((front : List ℕ) (ts : List TokenSeen) (a b : List ℕ) → (behind front).spells ts a → (behind front).spells ts b → a ≡ b)
      → (tokens : List TokenSeen) (a b : List ℕ) → SpellsThen f behind tokens a → SpellsThen f behind tokens b → a ≡ b
  then_once once rest tokens a b h k =
      let all : h.first ∷ h.last ≡ k.first ∷ k.last = sym h.tokens_are ∙ k.tokens_are in
      let head : h.first ≡ k.first = cc all in
      let tail : h.last ≡ k.last = cc all in
      let fronts : h.front ≡ k.front = once k.first h.front k.front (subst (λ t. f.spells t h.front) head h.spelled) k.spelled in
      let backs : h.back ≡ k.back = rest k.front k.last h.back k.back (subst (λ o. (behind o).spells k.last h.back) fronts (subst (λ ts. (behind h.front).spells ts h.back) tail h.rest)) k.rest in
      h.octets_are ∙ ap (λ o. o ++ h.back) fronts ∙ ap (λ o. k.front ++ o) backs ∙ sym k.octets_are

  module _ (room : Room) (left : List TokenSeen) (old octets : List ℕ) where
    pub then_exceeded : SpelledOnce f.spells → BegunWithin f.begins f.spells
        → ((front : List ℕ) (ts : List TokenSeen) (o back : List ℕ) → (behind front).exceeds room ts left o → (behind front).spells ts back → room.fits < length o + length back)
        → (tokens : List TokenSeen) → ExceedsThen f behind room tokens left old → SpellsThen f behind tokens octets → room.fits < length old + length octets
    then_exceeded once within rest [] h sp = absurd h
    then_exceeded once within rest (t ∷ ts) h sp = by h
      where
        all : t ∷ ts ≡ sp.first ∷ sp.last
        all = sp.tokens_are

        head : sp.first ≡ t
        head = cc all

        tail : sp.last ≡ ts
        tail = cc all

        first_spelled : f.spells t sp.front
        first_spelled = subst (λ z. f.spells z sp.front) head sp.spelled

        size : length octets ≡ length sp.front + length sp.back
        size = ap length sp.octets_are ∙ length-append sp.front sp.back

        by : ExceedsThen f behind room (t ∷ ts) left old → room.fits < length old + length octets
        by (inl k) = let few = within t k.1.0 sp.front k.1.1 first_spelled in omega (arith, k.1.2, few, size)
        by (inr k) =
            let front : List ℕ = k.0 in
            let fronts : sp.front ≡ front = once t sp.front front first_spelled k.1 in
            let last : (behind front).spells ts sp.back = subst (λ o. (behind o).spells ts sp.back) fronts (subst (λ z. (behind sp.front).spells z sp.back) tail sp.rest) in
            let exceeds = rest front ts (old ++ front) sp.back k.2 last in
            omega (arith, exceeds, length-append old front, ap length fronts, size)

  module _ (room : Room) (end : ℕ) (tokens : List TokenSeen) (old : List ℕ) where
    pub first_refused : (r : RecordError) (left : List TokenSeen) (new : List ℕ) → ParsesTokenAs room f.begins f.spells f.reason end tokens old (Err r) left new → RefusesRest room (then_form f behind) end tokens old r left new
    first_refused r left new h = record { at = moved r h.1 (ap (λ l. next_place l end) (sym h.0)); why = by tokens h.0 h.2; extends = h.3 }
      where
        -- what is spelled has a first token
        first_is : (t : TokenSeen) (ts : List TokenSeen) (octets : List ℕ) (sp : SpellsThen f behind (t ∷ ts) octets) → f.spells t sp.front
        first_is t ts octets sp = let is : t ∷ ts ≡ sp.first ∷ sp.last = sp.tokens_are in let head : sp.first ≡ t = cc is in subst (λ t. f.spells t sp.front) head sp.spelled

        by : (tokens : List TokenSeen) → left ≡ tokens → RefusesTokenAs room f.begins f.spells f.reason tokens old r.kind → RefusesAs room (then_form f behind) tokens old left r.kind
        by [] none why = inr ((none, why), λ octets sp. (let is : [] ≡ sp.first ∷ sp.last = sp.tokens_are in cc is))
        by (t ∷ ts) same (inl short) = inl (short.0, inl (same, short.1))
        by (t ∷ ts) same (inr bad) = inr (inl (same, bad.0, bad.1), λ octets sp. bad.1 sp.front (first_is t ts octets sp))

    module _ (once : SpelledOnce f.spells) (t : TokenSeen) (ts : List TokenSeen) (front middle : List ℕ) (is : tokens ≡ t ∷ ts) (spelled : f.spells t front) (gained : middle ≡ old ++ front) where
      -- what tokens spell, after the first
      parts : (octets : List ℕ) (sp : SpellsThen f behind tokens octets) → (behind front).spells ts sp.back × (sp.front ≡ front)
      parts octets sp =
          let all : t ∷ ts ≡ sp.first ∷ sp.last = sym is ∙ sp.tokens_are in
          let head : sp.first ≡ t = cc all in
          let tail : sp.last ≡ ts = cc all in
          let fronts : sp.front ≡ front = once t sp.front front (subst (λ z. f.spells z sp.front) head sp.spelled) spelled in
          (subst (λ o. (behind o).spells ts sp.back) fronts (subst (λ z. (behind sp.front).spells z sp.back) tail sp.rest), fronts)

      why_behind : (left : List TokenSeen) (e : ErrorKind) → RefusesAs room (behind front) ts middle left e → RefusesAs room (then_form f behind) tokens old left e
      why_behind left e (inl short) = inl (short.0, subst (λ z. ExceedsThen f behind room z left old) (sym is) (inr (front, spelled, subst ((behind front).exceeds room ts left) gained short.1)))
      why_behind left e (inr bad) = inr (subst (λ z. ThenReason f behind z left e) (sym is) (inr (front, spelled, bad.0)), λ octets sp. bad.1 sp.back (parts octets sp).0)

      pub behind_taken : (begun : ℕ) (r : Result (Unit {0}) RecordError) (left : List TokenSeen) (new : List ℕ) → begun ≡ end → ParsesTail room (behind front) begun ts middle r left new → ParsesTail room (then_form f behind) end tokens old r left new
      behind_taken begun (Ok x) left new ends h = (
        h.0,
        (
          front ++ h.1.0,
          record { first = t; last = ts; front = front; back = h.1.0; tokens_are = is; octets_are = refl; spelled = spelled; rest = h.1.1 },
          h.1.2 ∙ ap (λ o. o ++ h.1.0) gained ∙ append_assoc old front h.1.0,
        ),
      )
      behind_taken begun (Err r) left new ends h = record {
        at = moved r h.at (ap (next_place left) ends);
        why = why_behind left r.kind h.why;
        extends = (front ++ h.extends.0, h.extends.1 ∙ ap (λ o. o ++ h.extends.0) gained ∙ append_assoc old front h.extends.0);
      }
