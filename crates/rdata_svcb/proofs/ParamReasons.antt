-- Tokens that are rejected as parameters have one reason.
use Rattle.std.proofs.Common.{ℕ, ◌≡◌, ◌≢◌, ◌⊎◌, ◌<◌, true≢false, List, [], ◌∷◌, ◌++◌, length, refl, sym, ap, subst, ◌∙◌, inl, inr, arith, append-nil, Option, Some, None}
use Rattle.std.specs.Prelude.{All, IsSome}
use Rattle.std.specs.List.{AllPairs}
use Rattle.std.proofs.lemmas.List.Elements.{All-head, All-tail}
use Rattle.dns_lexer.specs.EntryTokens.{TokenSeen}
use Rattle.rdata_values.specs.declared.error.ErrorKind.{ErrorKind}
use Rattle.rdata_values.specs.declared.error.ErrorKind.TheVariants.{ShortParams, ParamOrder, ParamValue, MissingParam}
use Rattle.rdata_svcb.specs.Keys.{NamesKey}
use Rattle.rdata_svcb.specs.OneReason.{HaveParamsOneReason}
use Rattle.rdata_svcb.specs.Params.{params_of, params_wire, value_at, HasFittingValues, IsNoParams}
use Rattle.rdata_svcb.specs.ParamRefusals.{AddedReason, NewReason, ParamReason, ParamsReason, WordFault}
use Rattle.rdata_svcb.specs.ParamsFaults.{HasValueFault, IsParamsFault, IsRight, AreRightParams, value_fault}
use Rattle.rdata_svcb.specs.ParamTokens.{FindsParam, IsClosedWord, IsOpenWord, IsValueAfterWord, ReadsEachParam, ReadsParam, ReadsParams, SpellsFirstParam, SpellsFirstParams, SpellsParams, SplitsValue, SplitsWord}
use Rattle.rdata_svcb.specs.ParamValues.{SpellsValue}
use Rattle.rdata_svcb.specs.declared.keys.ValueKind.{ValueKind}
use Rattle.rdata_svcb.proofs.Exceeded.{found_first, reads_go_on, some_read}
use Rattle.rdata_svcb.proofs.Fronts.{behind_once, goes_on_apart, split_once, value_once}
use Rattle.rdata_svcb.proofs.KeyRefusals.{key_once}
use Rattle.rdata_svcb.proofs.NewKeys.{new_of_all}
use Rattle.rdata_svcb.proofs.ValueReasons.{value_apart, value_reason_once}

-- ---- one parameter

-- tokens begin with one key and one text of its value
module _ (t : TokenSeen) (tokens : List TokenSeen) (key other : ℕ) (kind form : ValueKind) (value text : List ℕ) (at place after left : List TokenSeen) where
  abbrev pub IsFoundOnce : Type 0
  IsFoundOnce = (key ≡ other) × (kind ≡ form) × (value ≡ text) × (at ≡ place) × (after ≡ left)

  found_once : FindsParam (t ∷ tokens) key kind value at after → FindsParam (t ∷ tokens) other form text place left → IsFoundOnce
  found_once h k = by h.1.2 k.1.2
    where
      of : h.1.0 ≡ k.1.0 → value ≡ text → at ≡ place → after ≡ left → IsFoundOnce
      of name is begin end = let one = key_once k.1.0 key other kind form (subst (λ n. NamesKey n key kind) name h.1.1) k.1.1 in (one.0, one.1, is, begin, end)

      by : (SplitsWord t.text h.1.0 value × IsClosedWord t.text × (at ≡ t ∷ tokens) × (after ≡ tokens)) ⊎ (IsOpenWord t.text h.1.0 × (at ≡ tokens) × IsValueAfterWord tokens value after)
          → (SplitsWord t.text k.1.0 text × IsClosedWord t.text × (place ≡ t ∷ tokens) × (left ≡ tokens)) ⊎ (IsOpenWord t.text k.1.0 × (place ≡ tokens) × IsValueAfterWord tokens text left) → IsFoundOnce
      by (inl c) (inl d) = let same = split_once t.text h.1.0 value k.1.0 text c.0 d.0 in of same.0 same.1 (c.2 ∙ sym d.2) (c.3 ∙ sym d.3)
      by (inl c) (inr o) = absurd (c.1 k.1.0 o.0)
      by (inr o) (inl c) = absurd (c.1 h.1.0 o.0)
      by (inr o) (inr p) =
          let same = split_once t.text h.1.0 [] k.1.0 [] (o.0.0, inr o.0.1) (p.0.0, inr p.0.1) in
          let behind = behind_once tokens value text after left o.2 p.2 in
          of same.0 (sym behind.0) (o.1 ∙ sym p.1) (sym behind.1)

word_once : (t : TokenSeen) (a b : ErrorKind) → WordFault t a → WordFault t b → a ≡ b
word_once t a b (inl h) (inl k) = h.0 ∙ sym k.0
word_once t a b (inl h) (inr (inl k)) = absurd (true≢false (sym h.1 ∙ k.1))
word_once t a b (inl h) (inr (inr k)) = absurd (true≢false (sym h.1 ∙ k.1.1))
word_once t a b (inr (inl h)) (inl k) = absurd (true≢false (sym k.1 ∙ h.1))
word_once t a b (inr (inl h)) (inr (inl k)) = h.0 ∙ sym k.0
word_once t a b (inr (inl h)) (inr (inr k)) = absurd (true≢false (sym h.2 ∙ k.1.0))
word_once t a b (inr (inr h)) (inl k) = absurd (true≢false (sym k.1 ∙ h.1.1))
word_once t a b (inr (inr h)) (inr (inl k)) = absurd (true≢false (sym k.2 ∙ h.1.0))
word_once t a b (inr (inr h)) (inr (inr k)) = h.0 ∙ sym k.0

-- a token that begins a parameter has no fault
word_apart : (t : TokenSeen) (tokens : List TokenSeen) (key : ℕ) (kind : ValueKind) (value : List ℕ) (at after : List TokenSeen) (e : ErrorKind) → WordFault t e → FindsParam (t ∷ tokens) key kind value at after → ⊥
word_apart t tokens key kind value at after e (inl h) k = true≢false (sym h.1 ∙ k.0.1)
word_apart t tokens key kind value at after e (inr (inl h)) k = true≢false (sym h.2 ∙ k.0.0)
word_apart t tokens key kind value at after e (inr (inr h)) k = by k.1.2
  where
    by : (SplitsWord t.text k.1.0 value × IsClosedWord t.text × (at ≡ t ∷ tokens) × (after ≡ tokens)) ⊎ (IsOpenWord t.text k.1.0 × (at ≡ tokens) × IsValueAfterWord tokens value after) → ⊥
    by (inl c) = h.2 k.1.0 value c.0 key kind k.1.1
    by (inr o) = h.2 k.1.0 [] (o.0.0, inr o.0.1) key kind k.1.1

some_or_none : {X : Type 0} (o : Option X) → IsSome o → o ≡ None → ⊥
some_or_none None h e = true≢false (sym h)
some_or_none (Some x) h e = absurd cc

added_once : (params : List (ℕ × List ℕ)) (key : ℕ) (value : List ℕ) (a b : ErrorKind) → AddedReason params key value a → AddedReason params key value b → a ≡ b
added_once params key value a b (inl h) (inl k) = h.0 ∙ sym k.0
added_once params key value a b (inl h) (inr k) = absurd (omega (arith, h.1, k.1))
added_once params key value a b (inr h) (inl k) = absurd (omega (arith, h.1, k.1))
added_once params key value a b (inr h) (inr k) = h.0 ∙ sym k.0

added_apart : (params : List (ℕ × List ℕ)) (key : ℕ) (value : List ℕ) (e : ErrorKind) → AddedReason params key value e → length value < 65536 → value_at params key ≡ None → ⊥
added_apart params key value e (inl h) short none = omega (arith, h.1, short)
added_apart params key value e (inr h) short none = some_or_none (value_at params key) h.2 none

module _ (params : List (ℕ × List ℕ)) (key : ℕ) (kind : ValueKind) (text : List ℕ) where
  new_once : (a b : ErrorKind) → NewReason params key kind text a → NewReason params key kind text b → a ≡ b
  new_once a b (inl h) (inl k) = value_reason_once kind text a b h k
  new_once a b (inl h) (inr (v, s, k)) = absurd (value_apart kind text v a h s)
  new_once a b (inr (v, s, h)) (inl k) = absurd (value_apart kind text v b k s)
  new_once a b (inr (v, s, h)) (inr (w, u, k)) = added_once params key w a b (subst (λ x. AddedReason params key x a) (value_once kind text v w s u) h) k

  -- a value that can be added has no reason
  new_apart : (e : ErrorKind) (octets : List ℕ) → NewReason params key kind text e → SpellsValue kind text octets → length octets < 65536 → value_at params key ≡ None → ⊥
  new_apart e octets (inl h) s short none = value_apart kind text octets e h s
  new_apart e octets (inr (v, u, h)) s short none = added_apart params key octets e (subst (λ x. AddedReason params key x e) (value_once kind text v octets u s) h) short none

some_rejected : (params : List (ℕ × List ℕ)) (tokens left : List TokenSeen) (e : ErrorKind) → ParamReason params tokens left e → tokens ≢ []
some_rejected params [] left e (inl h) none = h.1
some_rejected params [] left e (inr h) none = h.4
some_rejected params (t ∷ tokens) left e h none = absurd cc

module _ (params : List (ℕ × List ℕ)) where
  param_reason_once : (tokens left last : List TokenSeen) (a b : ErrorKind) → ParamReason params tokens left a → ParamReason params tokens last b → (left ≡ last) × (a ≡ b)
  param_reason_once [] left last a b h k = absurd (some_rejected params [] left a h refl)
  param_reason_once (t ∷ tokens) left last a b (inl h) (inl k) = (h.0 ∙ sym k.0, word_once t a b h.1 k.1)
  param_reason_once (t ∷ tokens) left last a b (inl h) (inr (key, kind, value, after, found, k)) = absurd (word_apart t tokens key kind value last after a h.1 found)
  param_reason_once (t ∷ tokens) left last a b (inr (key, kind, value, after, found, h)) (inl k) = absurd (word_apart t tokens key kind value left after b k.1 found)
  param_reason_once (t ∷ tokens) left last a b (inr (key, kind, value, after, found, h)) (inr (other, form, text, behind, finds, k)) =
      let same = found_once t tokens key other kind form value text left last after behind found finds in (
        same.3,
        new_once params other form text a b (subst (λ v. NewReason params other form v a) same.2 (subst (λ f. NewReason params other f value a) same.1 (subst (λ n. NewReason params n kind value a) same.0 h))) k,
      )

  -- tokens that begin with a parameter which can be added have no reason
  param_apart : (tokens left : List TokenSeen) (e : ErrorKind) (q : ℕ × List ℕ) (after : List TokenSeen) → ParamReason params tokens left e → ReadsParam tokens q after → length q.1 < 65536 → value_at params q.0 ≡ None → ⊥
  param_apart [] left e q after h r short none = some_rejected params [] left e h refl
  param_apart (t ∷ tokens) left e q after (inl h) r short none = word_apart t tokens q.0 r.0 r.1 r.2 after e h.1 r.3
  param_apart (t ∷ tokens) left e q after (inr (key, kind, value, behind, found, h)) r short none =
      let same = found_once t tokens key q.0 kind r.0 value r.1 left r.2 behind after found r.3 in
      new_apart params q.0 r.0 r.1 e q.1 (subst (λ v. NewReason params q.0 r.0 v e) same.2 (subst (λ f. NewReason params q.0 f value e) same.1 (subst (λ n. NewReason params n kind value e) same.0 h))) r.4 short none

-- ---- all parameters together

no_form_fault : (e : ErrorKind) (octets : List ℕ) → (IsNoParams octets → ⊥) → IsParamsFault e octets → HasValueFault e octets
no_form_fault ShortParams octets are h = absurd (are h.0)
no_form_fault (ParamOrder key) octets are h = absurd (are h.0)
no_form_fault (ParamValue key) octets are h = h
no_form_fault (MissingParam key) octets are h = h
no_form_fault e octets are h = absurd h

-- one element is the first that is wrong
first_wrong_once : {X : Type 0} (P : X → Type 0) (front others back behind : List X) (x y : X) → front ++ x ∷ back ≡ others ++ y ∷ behind → All P front → All P others → (P x → ⊥) → (P y → ⊥) → x ≡ y
first_wrong_once P [] [] back behind x y e f o wrong not = cc
first_wrong_once P [] (p ∷ others) back behind x y e f o wrong not = let same : p ≡ x = cc in absurd (wrong (subst P same (All-head P p others o)))
first_wrong_once P (p ∷ front) [] back behind x y e f o wrong not = let same : p ≡ y = cc in absurd (not (subst P same (All-head P p front f)))
first_wrong_once P (p ∷ front) (q ∷ others) back behind x y e f o wrong not =
    let rest : front ++ x ∷ back ≡ others ++ y ∷ behind = cc in first_wrong_once P front others back behind x y rest (All-tail P p front f) (All-tail P q others o) wrong not

value_fault_once : (octets : List ℕ) (a b : ErrorKind) → HasValueFault a octets → HasValueFault b octets → a ≡ b
value_fault_once octets a b h k =
    let all : List (ℕ × List ℕ) = params_of octets in
    let x = h.1.2 in
    let y = k.1.2 in
    let same = first_wrong_once (IsRight all) x.0 y.0 x.1 y.1 (h.1.0, h.1.1) (k.1.0, k.1.1) (sym x.2 ∙ y.2) x.3 y.3 x.4 y.4 in
    h.1.3 ∙ ap (λ (p : ℕ × List ℕ). value_fault all p.0 p.1) same ∙ sym k.1.3

fault_once : (params : List (ℕ × List ℕ)) (a b : ErrorKind) → HasFittingValues params → IsParamsFault a (params_wire params) → IsParamsFault b (params_wire params) → a ≡ b
fault_once params a b fitting h k =
    let are : IsNoParams (params_wire params) → ⊥ = λ none. none params fitting refl in
    value_fault_once (params_wire params) a b (no_form_fault a (params_wire params) are h) (no_form_fault b (params_wire params) are k)

all_middle : {X : Type 0} (P : X → Type 0) (front behind : List X) (x : X) → All P (front ++ x ∷ behind) → P x
all_middle P [] behind x h = All-head P x behind h
all_middle P (p ∷ front) behind x h = all_middle P front behind x (All-tail P p (front ++ x ∷ behind) h)

-- right parameters have no fault
right_apart : (params : List (ℕ × List ℕ)) (e : ErrorKind) → HasFittingValues params → IsParamsFault e (params_wire params) → AreRightParams (params_wire params) → ⊥
right_apart params e fitting h right =
    let octets : List ℕ = params_wire params in
    let are : IsNoParams octets → ⊥ = λ none. none params fitting refl in
    let fault : HasValueFault e octets = no_form_fault e octets are h in
    let x = fault.1.2 in
    x.4 (all_middle (IsRight (params_of octets)) x.0 x.1 (fault.1.0, fault.1.1) (subst (All (IsRight (params_of octets))) x.2 right.1))

-- ---- parameters one after another

read_once : (tokens : List TokenSeen) (p q : ℕ × List ℕ) (after left : List TokenSeen) → ReadsParam tokens p after → ReadsParam tokens q left → (p ≡ q) × (after ≡ left)
read_once [] p q after left h k = absurd h.3
read_once (t ∷ tokens) p q after left h k =
    let same = found_once t tokens p.0 q.0 h.0 k.0 h.1 k.1 h.2 k.2 after left h.3 k.3 in
    let octets : p.1 ≡ q.1 = value_once k.0 k.1 p.1 q.1 (subst (λ v. SpellsValue k.0 v p.1) same.2 (subst (λ f. SpellsValue f h.1 p.1) same.1 h.4)) k.4 in
    (ap (λ key. (key, p.1)) same.0 ∙ ap (λ v. (q.0, v)) octets, same.4)

reads_either : (tokens : List TokenSeen) (params others : List (ℕ × List ℕ)) (rest last : List TokenSeen) → ReadsEachParam tokens params rest → ReadsEachParam tokens others last
    → ((more : List (ℕ × List ℕ)) × (others ≡ params ++ more) × ReadsEachParam rest more last) ⊎ ((more : List (ℕ × List ℕ)) × (params ≡ others ++ more) × ReadsEachParam last more rest)
reads_either tokens [] others rest last h k = inl (others, refl, subst (λ ts. ReadsEachParam ts others last) h k)
reads_either tokens (p ∷ params) [] rest last h k = inr (p ∷ params, refl, subst (λ ts. ReadsEachParam ts (p ∷ params) rest) k h)
reads_either tokens (p ∷ params) (q ∷ others) rest last h k =
    let same = read_once tokens p q h.0 k.0 h.1 k.1 in
    elim (reads_either k.0 params others rest last (subst (λ ts. ReadsEachParam ts params rest) same.1 h.2) k.2) [
      | inl m ↦ inl (m.0, ap (λ z. z ∷ others) (sym same.0) ∙ ap (λ zs. p ∷ zs) m.1, m.2)
      | inr m ↦ inr (m.0, ap (λ z. z ∷ params) same.0 ∙ ap (λ zs. q ∷ zs) m.1, m.2)
    ]

-- what is wrong after parameters
abbrev WhyRejected : List (ℕ × List ℕ) → List TokenSeen → List TokenSeen → ErrorKind → Type 0
WhyRejected params rest left e = ParamReason params rest left e ⊎ ((rest ≡ []) × (left ≡ []) × IsParamsFault e (params_wire params))

why_once : (params : List (ℕ × List ℕ)) (rest left last : List TokenSeen) (a b : ErrorKind) → HasFittingValues params → WhyRejected params rest left a → WhyRejected params rest last b → (left ≡ last) × (a ≡ b)
why_once params rest left last a b fitting (inl h) (inl k) = param_reason_once params rest left last a b h k
why_once params rest left last a b fitting (inl h) (inr k) = absurd (some_rejected params rest left a h k.0)
why_once params rest left last a b fitting (inr h) (inl k) = absurd (some_rejected params rest last b k h.0)
why_once params rest left last a b fitting (inr h) (inr k) = (h.1 ∙ sym k.1, fault_once params a b fitting h.2 k.2)

-- nothing is wrong where one more parameter follows
more_read : (params more : List (ℕ × List ℕ)) (q : ℕ × List ℕ) (rest left after : List TokenSeen) (e : ErrorKind) → WhyRejected params rest left e → ReadsParam rest q after
    → AllPairs (λ p q. p.0 ≢ q.0) (params ++ q ∷ more) → HasFittingValues (params ++ q ∷ more) → ⊥
more_read params more q rest left after e (inl h) r once fitting =
    param_apart params rest left e q after h r (all_middle (λ (p : ℕ × List ℕ). length p.1 < 65536) params more q fitting) (new_of_all params more q once)
more_read params more q rest left after e (inr h) r once fitting = some_read rest q after r h.0

module _ (tokens : List TokenSeen) (params others : List (ℕ × List ℕ)) (rest last : List TokenSeen) (h : ReadsParams tokens params rest) (k : ReadsParams tokens others last) where
  -- the first parameters are all where the next is wrong
  all_read : (left : List TokenSeen) (e : ErrorKind) (more : List (ℕ × List ℕ)) → WhyRejected params rest left e → others ≡ params ++ more → ReadsEachParam rest more last → (params ≡ others) × (rest ≡ last)
  all_read left e [] why is r = (sym (is ∙ append-nil params), r)
  all_read left e (q ∷ more) why is r =
      absurd (more_read params more q rest left r.0 e why r.1 (subst (AllPairs (λ p q. p.0 ≢ q.0)) is k.once) (subst HasFittingValues is k.fitting))

pub params_reason_once : (tokens left last : List TokenSeen) (a b : ErrorKind) → ParamsReason tokens left a → ParamsReason tokens last b → (left ≡ last) × (a ≡ b)
params_reason_once tokens left last a b (params, rest, h, why) (others, behind, k, reason) = elim (reads_either tokens params others rest behind h.read k.read) [
  | inl m ↦ (let same = all_read tokens params others rest behind h k left a m.0 why m.1 m.2 in at same.0 same.1)
  | inr m ↦ (let same = all_read tokens others params behind rest k h last b m.0 reason m.1 m.2 in at (sym same.0) (sym same.1))
]
  where
    at : params ≡ others → rest ≡ behind → (left ≡ last) × (a ≡ b)
    at is end = why_once others behind left last a b k.fitting (subst (λ ts. WhyRejected others ts left a) end (subst (λ ps. WhyRejected ps rest left a) is why)) reason

-- ---- tokens that spell parameters

first_apart : (params : List (ℕ × List ℕ)) (tokens left middle : List TokenSeen) (e : ErrorKind) (q : ℕ × List ℕ) (more : List (ℕ × List ℕ)) → ParamReason params tokens left e → SpellsFirstParam tokens q middle → SpellsFirstParams middle more []
    → length q.1 < 65536 → value_at params q.0 ≡ None → ⊥
first_apart params [] left middle e q more h f later short none = f.split
first_apart params (t ∷ tokens) left middle e q more (inl h) f later short none = by h.1 f.split.1
  where
    by : WordFault t e → SplitsValue t tokens f.name f.value middle → ⊥
    by (inl w) s = true≢false (sym w.1 ∙ f.split.0.1)
    by (inr (inl w)) s = true≢false (sym w.2 ∙ f.split.0.0)
    by (inr (inr w)) (inl s) = w.2 f.name f.value s.0 q.0 f.spelled.0 f.spelled.1
    by (inr (inr w)) (inr s) = w.2 f.name [] (s.0.0, inr s.0.1) q.0 f.spelled.0 f.spelled.1
first_apart params (t ∷ tokens) left middle e q more (inr (key, kind, value, after, found, h)) f later short none =
    let same = found_first t tokens key kind value left after found q middle f (goes_on_apart middle more later) in
    new_apart params key kind value e q.1 h same.1 short (ap (value_at params) (sym same.0) ∙ none)

pub params_apart : (tokens left : List TokenSeen) (octets : List ℕ) (e : ErrorKind) → ParamsReason tokens left e → SpellsParams tokens octets → ⊥
params_apart tokens left octets e (params, rest, h, why) s = let on = reads_go_on tokens params s.params rest h.read s.spelled in by on.0 on.1 on.2 why
  where
    by : (more : List (ℕ × List ℕ)) → s.params ≡ params ++ more → SpellsFirstParams rest more [] → WhyRejected params rest left e → ⊥
    by [] is f (inl w) = some_rejected params rest left e w f
    by [] is f (inr w) = right_apart params e h.fitting w.2 (subst AreRightParams (s.whole ∙ ap params_wire (is ∙ append-nil params)) s.right)
    by (q ∷ more) is f (inl w) =
        first_apart params rest left f.0 e q more w f.1 f.2 (all_middle (λ (p : ℕ × List ℕ). length p.1 < 65536) params more q (subst HasFittingValues is s.fitting)) (new_of_all params more q (subst (AllPairs (λ p q. p.0 ≢ q.0)) is s.once))
    by (q ∷ more) is f (inr w) = none rest w.0 f.1
      where
        none : (ts : List TokenSeen) → ts ≡ [] → SpellsFirstParam ts q f.0 → ⊥
        none [] e first = first.split
        none (t ∷ ts) e first = absurd cc

pub params_one_reason : HaveParamsOneReason
params_one_reason = record { once = params_reason_once; apart = params_apart }
