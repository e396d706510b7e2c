-- Parameters that are rejected.
use Rattle.std.proofs.Common.{ℕ, ◌≡◌, ◌<◌, ◌+◌, true≢false, List, [], ◌∷◌, ◌++◌, length, refl, sym, subst, ap, ◌∙◌, arith, inl, inr, Option, Some, None, Result, Ok, Err, append_assoc}
use Rattle.std.specs.Prelude.{IfErr, IsSome, MatchOption, OnOk}
use Rattle.std.proofs.lemmas.List.{length-append}
use Rattle.dns_octets.specs.Room.{Room}
use Rattle.rdata_svcb.specs.Params.{param_head, params_wire, value_at}
use Rattle.dns_lexer.specs.EntryTokens.{TokenSeen}
use Rattle.rdata_svcb.specs.Keys.{NamesKey}
use Rattle.rdata_svcb.specs.ParamRefusals.{BeginsWithKey, ExceedsNew, ExceedsValue, NewReason, ParamReason, RefusesSpelled, RefusesValue}
use Rattle.rdata_svcb.specs.ParamSteps.{ExceedsOpen, GainsParam, MayBeginParam, CanBeAdded, BeginsWithOneParam, NamesNoParam, OpenReason, RefusesBegun, RefusesNew, RefusesOpen, SettlesParam, InsertsParam, SettlesValue, SpellsOpenValue, SpellsNew, HasParamsAfter, HasOpenParam, ParsesParamWord, ParsesQuoted}
use Rattle.rdata_svcb.specs.ParamTokens.{BeginsUnglued, IsClosedWord, IsOpenWord, IsSeparateWord, IsValueAfterWord, ReadsParam, SplitsParam, SplitsValue, SplitsWord, SpellsParam, SpellsFirstParam, FindsParam}
use Rattle.rdata_svcb.specs.ParamValues.{SpellsValue}
use Rattle.rdata_values.specs.declared.error.ErrorKind.{ErrorKind}
use Rattle.rdata_values.specs.declared.error.ErrorKind.TheVariants.{ShortBuf, LongValue, RepeatedParam}
use Rattle.rdata_svcb.specs.declared.keys.ValueKind.{ValueKind}
use Rattle.rdata_svcb.proofs.KeyRefusals.{key_once}
use Rattle.rdata_svcb.proofs.Fronts.{value_once, param_once, closed_once, open_once, behind_once}

module _ (start at : ℕ) (value old mid new : List ℕ) (gained : mid ≡ old ++ value) where
  open_settles : (r : Result (Unit {0}) ErrorKind) → SettlesParam start at mid new r → (base : List ℕ) (params : List (ℕ × List ℕ)) (key : ℕ) → HasOpenParam base params key start at old → InsertsParam base params key value new r
  open_settles r settles base params key o =
      settles base (params_wire params ++ (param_head key ++ value)) params key value o.fitting o.small o.begins o.place
      (gained ∙ ap (λ x. x ++ value) o.whole ∙ append_assoc base (params_wire params ++ param_head key) value ∙ ap (λ x. base ++ x) (append_assoc (params_wire params) (param_head key) value))
      ((0 ∷ 0 ∷ []), refl, refl)

  pub value_settled : SettlesParam start at mid new (Ok tt) → SettlesValue start at value old new
  value_settled settles base params key o = let s = open_settles (Ok tt) settles base params key o in ((s.2.0, s.2.1), s.1 ∙ ap (λ x. base ++ x) s.2.2)

  -- a value that is too long, or whose key is there
  pub value_unsettled : (room : Room) (kind : ValueKind) (text : List ℕ) (e : ErrorKind) → SpellsValue kind text value → SettlesParam start at mid new (Err e)
      → RefusesBegun room start at kind text old e
  value_unsettled room kind text LongValue spelled settles base params key o =
      let long = (open_settles (Err LongValue) settles base params key o).2 in
      inr (inr (value, spelled, inl (refl, long)), λ octets h. omega (arith, long, h.1.0, ap length (value_once kind text octets value h.0 spelled)))
  value_unsettled room kind text RepeatedParam spelled settles base params key o =
      let s = (open_settles (Err RepeatedParam) settles base params key o).2 in
      let there = s.1 in
      inr (inr (value, spelled, inr (refl, s.0, there)), λ octets h. none_there (value_at params key) there h.1.1)
    where
      none_there : (o : Option (List ℕ)) → IsSome o → o ≡ None → ⊥
      none_there None h e = true≢false (sym h)
      none_there (Some x) h e = absurd cc
  value_unsettled room kind text e spelled settles base params key o = absurd (open_settles (Err e) settles base params key o).2

  -- a value that is settled, or why it is not
  pub settled_ok : (kind : ValueKind) (text : List ℕ) (r : Result (Unit {0}) ErrorKind) → SpellsValue kind text value → SettlesParam start at mid new r
      → OnOk r ((value : List ℕ) × SpellsValue kind text value × SettlesValue start at value old new)
  settled_ok kind text (Ok tt) spelled settles = (value, spelled, value_settled settles)
  settled_ok kind text (Err e) spelled settles = tt

  pub settled_err : (room : Room) (kind : ValueKind) (text : List ℕ) (r : Result (Unit {0}) ErrorKind) → SpellsValue kind text value → SettlesParam start at mid new r
      → IfErr r (RefusesBegun room start at kind text old)
  settled_err room kind text (Ok tt) spelled settles = tt
  settled_err room kind text (Err e) spelled settles = value_unsettled room kind text e spelled settles

-- a value whose text is rejected
pub text_refused : (room : Room) (start at : ℕ) (kind : ValueKind) (text old : List ℕ) (e : ErrorKind) → RefusesValue room kind text old e → RefusesBegun room start at kind text old e
text_refused room start at kind text old e (inl h) base params key o = inl h
text_refused room start at kind text old e (inr h) base params key o = inr (inl h.0, λ octets s. h.1 octets s.0)

-- after parameters a key was begun
pub begun : (base : List ℕ) (params : List (ℕ × List ℕ)) (key start at : ℕ) (old mid : List ℕ) → HasParamsAfter base params start old → at ≡ length old → key < 65536 → mid ≡ old ++ param_head key
    → HasOpenParam base params key start at mid
begun base params key start at old mid h is small e = record {
  fitting = h.fitting;
  small = small;
  begins = h.begins;
  place = is ∙ ap length h.whole ∙ length-append base (params_wire params);
  whole = e ∙ ap (λ x. x ++ param_head key) h.whole ∙ append_assoc base (params_wire params) (param_head key);
}

pub gains_param : (start at key : ℕ) (value old mid new : List ℕ) → at ≡ length old → key < 65536 → mid ≡ old ++ param_head key → SettlesValue start at value mid new → GainsParam (key, value) start old new
gains_param start at key value old mid new is small e settles base params h = settles base params key (begun base params key start at old mid h is small e)

head_size : (key : ℕ) → length (param_head key) ≡ 4
head_size key = refl

-- a word whose key was read names one
pub begins_with_key : {T : Type 0} (word name : List ℕ) (key : ℕ) (kind : ValueKind) (value : Option T) (text : T → List ℕ) → NamesKey name key kind
    → MatchOption value (IsOpenWord word name) (λ v. SplitsWord word name (text v) × IsClosedWord word) → BeginsWithKey word
begins_with_key word name key kind None text named opened = (name, [], key, kind, (opened.0, inr opened.1), named)
begins_with_key word name key kind (Some v) text named closed = (name, text v, key, kind, closed.0, named)

module _ (room : Room) (start : ℕ) (t : TokenSeen) (old : List ℕ) where
  -- a token that begins no parameter
  pub word_refused : (e : ErrorKind) → NamesNoParam t e → (rest : List TokenSeen) → RefusesNew room start (t ∷ rest) (t ∷ rest) old e
  word_refused e h rest base params b = inr (inl (refl, h.0), λ octets s. none octets s.0 s.1 s.2)
    where
      none : (octets : List ℕ) (p : ℕ × List ℕ) (left : List TokenSeen) → SpellsFirstParam (t ∷ rest) p left → ⊥
      none octets p left f = by f.split.1
        where
          by : SplitsValue t rest f.name f.value left → ⊥
          by (inl k) = h.1 f.name f.value f.split.0 k.0 p.0 f.spelled.0 f.spelled.1
          by (inr k) = h.1 f.name [] f.split.0 (k.0.0, inr k.0.1) p.0 f.spelled.0 f.spelled.1

  -- no room for its key
  pub head_refused : (key : ℕ) → IsSeparateWord t → BeginsWithKey t.text → ((octets : List ℕ) → octets ≡ param_head key → room.fits < length old + length octets) → (rest : List TokenSeen)
      → RefusesNew room start (t ∷ rest) (t ∷ rest) old ShortBuf
  head_refused key apart named lacks rest base params b = inl (refl, inl (refl, (apart, named), (let few = lacks (param_head key) refl in omega (arith, few, head_size key))))

  -- its value is rejected
  pub value_refused : (at key : ℕ) (kind : ValueKind) (name text mid : List ℕ) (e : ErrorKind) → IsSeparateWord t → SplitsWord t.text name text → IsClosedWord t.text → NamesKey name key kind → key < 65536 → at ≡ length old
      → mid ≡ old ++ param_head key → RefusesBegun room start at kind text mid e → (rest : List TokenSeen) → RefusesNew room start (t ∷ rest) (t ∷ rest) old e
  value_refused at key kind name text mid e apart split closed names small is gained h rest base params b = by (h base params key (begun base params key start at old mid b is small gained))
    where
      value_of : (p : ℕ × List ℕ) (left : List TokenSeen) → SpellsFirstParam (t ∷ rest) p left → CanBeAdded params p.0 p.1 → SpellsValue kind text p.1 × CanBeAdded params key p.1
      value_of p left f new =
          let same = closed_once t rest name text f.name f.value left split closed f.split.1 in
          let named : NamesKey name p.0 f.spelled.0 = subst (λ n. NamesKey n p.0 f.spelled.0) same.0 f.spelled.1 in
          let one = key_once name p.0 key f.spelled.0 kind named names in
          let value : SpellsValue kind f.value p.1 = subst (λ k. SpellsValue k f.value p.1) one.1 f.spelled.2 in
          (subst (λ v. SpellsValue kind v p.1) same.1 value, subst (λ k. CanBeAdded params k p.1) one.0 new)

      taken : FindsParam (t ∷ rest) key kind text (t ∷ rest) rest
      taken = (apart, (name, names, inl (split, closed, refl, refl)))

      by : RefusesSpelled (ExceedsValue room kind text mid) (λ value. SpellsValue kind text value × CanBeAdded params key value) (NewReason params key kind text) e
          → RefusesSpelled (ExceedsNew room (t ∷ rest) (t ∷ rest) old) (SpellsNew params (t ∷ rest)) (ParamReason params (t ∷ rest) (t ∷ rest)) e
      by (inl l) = inl (l.0, inr (key, kind, text, rest, taken, subst (ExceedsValue room kind text) gained l.1))
      by (inr n) = inr (inr (key, kind, text, rest, taken, n.0), λ octets s. n.1 s.0.1 (value_of s.0 s.1 s.2 s.4))

-- the value after an open word is rejected
pub behind_refused : (room : Room) (start at : ℕ) (kind : ValueKind) (tokens left : List TokenSeen) (value old : List ℕ) (e : ErrorKind) → IsValueAfterWord tokens value left
    → RefusesBegun room start at kind value old e → RefusesOpen room start at kind tokens old e
behind_refused room start at kind tokens left value old e is h base params key o = by (h base params key o)
  where
    value_of : (octets : List ℕ) → SpellsOpenValue kind tokens octets → SpellsValue kind value octets
    value_of octets s = subst (λ v. SpellsValue kind v octets) (behind_once tokens value s.0 left s.1 is s.2).0 s.3

    by : RefusesSpelled (ExceedsValue room kind value old) (λ octets. SpellsValue kind value octets × CanBeAdded params key octets) (NewReason params key kind value) e
        → RefusesSpelled (ExceedsOpen room kind tokens old) (λ octets. SpellsOpenValue kind tokens octets × CanBeAdded params key octets) (OpenReason params key kind tokens) e
    by (inl l) = inl (l.0, (value, left, is, l.1))
    by (inr n) = inr ((value, left, is, n.0), λ octets s. n.1 octets (value_of octets s.0, s.1))

-- no quoted string is adjacent to the word, so its value is empty
pub unglued_refused : (room : Room) (start at : ℕ) (kind : ValueKind) (tokens : List TokenSeen) (old : List ℕ) (e : ErrorKind) → BeginsUnglued tokens → RefusesBegun room start at kind [] old e → RefusesOpen room start at kind tokens old e
unglued_refused room start at kind tokens old e apart h = behind_refused room start at kind tokens tokens [] old e (inl (refl, refl, apart)) h

module _ (start : ℕ) (t : TokenSeen) (tokens rest : List TokenSeen) (old : List ℕ) (is : tokens ≡ t ∷ rest) where
  -- a word is a parameter
  pub word_taken : (new : List ℕ) → ParsesParamWord start t old new None → (p : ℕ × List ℕ) × SpellsFirstParam tokens p rest × BeginsWithOneParam tokens p rest × GainsParam p start old new × ReadsParam tokens p rest
  word_taken new h =
      let w = h.1 in (
        w.2,
        record { name = w.0; value = w.1; split = subst (λ ts. SplitsParam ts w.0 w.1 rest) (sym is) (h.0, inl (w.3, refl)); spelled = w.5 },
        λ q left f apart. only q left (subst (λ ts. SpellsFirstParam ts q left) is f),
        w.7,
        subst (λ ts. ReadsParam ts w.2 rest) (sym is) (w.5.0, w.1, t ∷ rest, (h.0, (w.0, w.5.1, inl (w.3, w.4, refl, refl))), w.5.2),
      )
    where
      only : (q : ℕ × List ℕ) (left : List TokenSeen) → SpellsFirstParam (t ∷ rest) q left → (q ≡ h.1.2) × (left ≡ rest)
      only q left f =
          let w = h.1 in
          let same = closed_once t rest w.0 w.1 f.name f.value left w.3 w.4 f.split.1 in
          let spelled : SpellsParam w.0 w.1 q = subst (λ v. SpellsParam w.0 v q) same.1 (subst (λ n. SpellsParam n f.value q) same.0 f.spelled) in
          (param_once w.0 w.1 q w.2 spelled w.5, same.2)

  -- a word and the value after it are one parameter
  pub quoted_taken : (at : ℕ) (kind : ValueKind) (left : List TokenSeen) (mid new : List ℕ) → at ≡ length old → ParsesParamWord start t old mid (Some kind) → ParsesQuoted start at kind rest left mid new
      → (p : ℕ × List ℕ) × SpellsFirstParam tokens p left × BeginsWithOneParam tokens p left × GainsParam p start old new × ReadsParam tokens p left
  quoted_taken at kind left mid new place h k =
      let w = h.1 in (
        (w.1, k.1),
        record { name = w.0; value = k.0; split = subst (λ ts. SplitsParam ts w.0 k.0 left) (sym is) (h.0, behind k.2); spelled = (kind, w.3, k.3) },
        λ q more f apart. only q more (subst (λ ts. SpellsFirstParam ts q more) is f) apart,
        gains_param start at w.1 k.1 old mid new place w.4 w.5 k.4,
        subst (λ ts. ReadsParam ts (w.1, k.1) left) (sym is) (kind, k.0, rest, (h.0, (w.0, w.3, inr (w.2, refl, k.2))), k.3),
      )
    where
      behind : IsValueAfterWord rest k.0 left → SplitsValue t rest h.1.0 k.0 left
      behind (inl n) = inl ((h.1.2.0, inr (h.1.2.1 ∙ ap (λ v. h.1.0 ++ 61 ∷ v) (sym n.0))), n.1)
      behind (inr q) = inr (h.1.2, q)

      only : (q : ℕ × List ℕ) (more : List TokenSeen) → SpellsFirstParam (t ∷ rest) q more → MayBeginParam more → (q ≡ (h.1.1, k.1)) × (more ≡ left)
      only q more f apart =
          let w = h.1 in
          let one = open_once t rest w.0 f.name f.value more w.2 f.split.1 apart in
          let same = behind_once rest k.0 f.value left more k.2 one.1 in
          let spelled : SpellsParam w.0 k.0 q = subst (λ v. SpellsParam w.0 v q) same.0 (subst (λ n. SpellsParam n f.value q) one.0 f.spelled) in
          (param_once w.0 k.0 q (w.1, k.1) spelled (kind, w.3, k.3), same.1)

  pub quoted_refused : (room : Room) (at : ℕ) (kind : ValueKind) (left : List TokenSeen) (mid : List ℕ) (e : ErrorKind) → at ≡ length old → left ≡ rest → ParsesParamWord start t old mid (Some kind)
      → RefusesOpen room start at kind rest mid e → RefusesNew room start tokens left old e
  quoted_refused room at kind left mid e place same h k = subst (λ ts. RefusesNew room start ts left old e) (sym is) (subst (λ ts. RefusesNew room start (t ∷ rest) ts old e) (sym same) refused)
    where
      key : ℕ
      key = h.1.1

      taken : (value : List ℕ) (after : List TokenSeen) → IsValueAfterWord rest value after → FindsParam (t ∷ rest) key kind value rest after
      taken value after v = (h.0, (h.1.0, h.1.3, inr (h.1.2, refl, v)))

      value_of : (params : List (ℕ × List ℕ)) (octets : List ℕ) (s : SpellsNew params (t ∷ rest) octets) → SpellsOpenValue kind rest s.0.1 × CanBeAdded params key s.0.1
      value_of params octets s =
          let w = h.1 in let p : ℕ × List ℕ = s.0 in
          let f : SpellsFirstParam (t ∷ rest) p s.1 = s.2 in
          let one = open_once t rest w.0 f.name f.value s.1 w.2 f.split.1 s.3 in
          let named : NamesKey w.0 p.0 f.spelled.0 = subst (λ n. NamesKey n p.0 f.spelled.0) one.0 f.spelled.1 in
          let same = key_once w.0 p.0 w.1 f.spelled.0 kind named w.3 in
          ((f.value, s.1, one.1, subst (λ k. SpellsValue k f.value p.1) same.1 f.spelled.2), subst (λ k. CanBeAdded params k p.1) same.0 s.4)

      by : (params : List (ℕ × List ℕ)) → RefusesSpelled (ExceedsOpen room kind rest mid) (λ octets. SpellsOpenValue kind rest octets × CanBeAdded params key octets) (OpenReason params key kind rest) e
          → RefusesSpelled (ExceedsNew room (t ∷ rest) rest old) (SpellsNew params (t ∷ rest)) (ParamReason params (t ∷ rest) rest) e
      by params (inl l) = inl (l.0, inr (key, kind, l.1.0, l.1.1, taken l.1.0 l.1.1 l.1.2, subst (ExceedsValue room kind l.1.0) h.1.5 l.1.3))
      by params (inr n) = inr (inr (key, kind, n.0.0, n.0.1, taken n.0.0 n.0.1 n.0.2, n.0.3), λ octets s. n.1 s.0.1 (value_of params octets s))

      refused : RefusesNew room start (t ∷ rest) rest old e
      refused base params b = by params (k base params key (begun base params key start at old mid b place h.1.4 h.1.5))

  pub first_refused : (room : Room) (left : List TokenSeen) (e : ErrorKind) → left ≡ tokens → ((rest : List TokenSeen) → RefusesNew room start (t ∷ rest) (t ∷ rest) old e) → RefusesNew room start tokens left old e
  first_refused room left e same h = subst (λ ts. RefusesNew room start tokens ts old e) (sym same) (subst (λ ts. RefusesNew room start ts ts old e) (sym is) (h rest))
