-- Parameters of tokens, one after another.
use Rattle.std.proofs.Common.{ℕ, zero, suc, ◌≡◌, ◌≢◌, ◌<◌, ◌+◌, ◌==◌, Bool, true, false, true≢false, cond, List, [], ◌∷◌, ◌++◌, length, get_or, refl, sym, subst, ap, ◌∙◌, arith, Option, Some, None, append_assoc, append-nil, inl, inr}
use Rattle.std.specs.Prelude.{is_some, option_map, slice_get}
use Rattle.std.proofs.lemmas.Option.{none-some}
use Rattle.dns_lexer.specs.EntryTokens.{token_seen}
use Rattle.dns_lexer.specs.declared.entry_tokens.EntryToken.{EntryToken}
use Rattle.std.specs.List.{AllPairs}
use Rattle.std.proofs.lemmas.Bool.{eq-eqb}
use Rattle.std.proofs.lemmas.List.Elements.{All-nil, All-cons, All-append, All-head, All-tail}
use Rattle.std.proofs.lemmas.List.Quantifiers.{all_pairs_push}
use Rattle.dns_octets.specs.Appending.{Gains}
use Rattle.dns_lexer.specs.EntryTokens.{TokenSeen}
use Rattle.rdata_svcb.specs.Params.{param_head, params_wire, params_from, value_at, HasFittingValues}
use Rattle.rdata_svcb.specs.ParamsFaults.{AreRightParams, IsParamsFault}
use Rattle.rdata_svcb.proofs.Entries.{entries_none, entries_first}
use Rattle.dns_octets.specs.Room.{Room}
use Rattle.rdata_svcb.specs.ParamRefusals.{ExceedsNew, ExceedsParams, ParamReason, ParamsReason, RefusesSpelled}
use Rattle.rdata_svcb.specs.ParamSteps.{GainsParam, BeginsWithOneParam, RefusesNew, SpellsNew}
use Rattle.rdata_svcb.specs.ParamTokens.{ReadsEachParam, ReadsParam, ReadsParams, SplitsParam, SpellsFirstParam, SpellsFirstParams, SpellsParams}
use Rattle.rdata_values.specs.declared.error.ErrorKind.{ErrorKind}
use Rattle.rdata_svcb.proofs.Fronts.{front_goes_on, goes_on_apart}
use Rattle.rdata_svcb.proofs.NewKeys.{new_of_all}

-- parameters so far
pub record TakesParams (tokens left : List TokenSeen) (old new : List ℕ) : Type 0 where
  pub params : List (ℕ × List ℕ)
  pub spelled : SpellsFirstParams tokens params left
  pub read : ReadsEachParam tokens params left
  pub once : AllPairs (λ p q. p.0 ≢ q.0) params
  pub fitting : HasFittingValues params
  pub gained : new ≡ old ++ params_wire params
  pub go_on : (all : List (ℕ × List ℕ)) → SpellsFirstParams tokens all [] → (more : List (ℕ × List ℕ)) × (all ≡ params ++ more) × SpellsFirstParams left more []

wire_by : (w n : ℕ) → params_from (λ _. None) w n ≡ []
wire_by w zero = entries_none (λ _. None) w
wire_by w (suc n) = entries_first (λ _. None) w n ∙ wire_by (w + 1) n

pub params_none : (tokens : List TokenSeen) (old : List ℕ) → TakesParams tokens tokens old old
params_none tokens old = record {
  params = [];
  spelled = refl;
  read = refl;
  once = λ i j d l m. absurd (omega (arith, m));
  fitting = All-nil (λ p. length p.1 < 65536);
  gained = sym (append-nil old) ∙ ap (λ x. old ++ x) (sym (wire_by 0 65536));
  go_on = λ all h. (all, refl, h);
}

fronts_more : (tokens mid left : List TokenSeen) (params : List (ℕ × List ℕ)) (p : ℕ × List ℕ) → SpellsFirstParams tokens params mid → SpellsFirstParam mid p left → SpellsFirstParams tokens (params ++ p ∷ []) left
fronts_more tokens mid left [] p h k = (left, subst (λ ts. SpellsFirstParam ts p left) (sym h) k, refl)
fronts_more tokens mid left (q ∷ params) p h k = (h.0, h.1, fronts_more h.0 mid left params p h.2 k)

reads_more : (tokens mid left : List TokenSeen) (params : List (ℕ × List ℕ)) (p : ℕ × List ℕ) → ReadsEachParam tokens params mid → ReadsParam mid p left → ReadsEachParam tokens (params ++ p ∷ []) left
reads_more tokens mid left [] p h k = (left, subst (λ ts. ReadsParam ts p left) (sym h) k, refl)
reads_more tokens mid left (q ∷ params) p h k = (h.0, h.1, reads_more h.0 mid left params p h.2 k)

none_by : (q : ℕ × List ℕ) (b : Bool) (rest : Option (List ℕ)) → cond b (Some q.1) rest ≡ None → b ≡ true → ⊥
none_by q true rest h e = cc
none_by q false rest h e = cc

none_rest : (q : ℕ × List ℕ) (b : Bool) (rest : Option (List ℕ)) → cond b (Some q.1) rest ≡ None → rest ≡ None
none_rest q true rest h = cc
none_rest q false rest h = h

-- a key without a value differs from each of their keys
pub no_key : (ps : List (ℕ × List ℕ)) (key : ℕ) → value_at ps key ≡ None → (k : ℕ) (d : ℕ × List ℕ) → k < length ps → (get_or ps k d).0 ≢ key
no_key [] key h k d l e = omega (arith, l)
no_key (q ∷ qs) key h zero d l e = none_by q (q.0 == key) (value_at qs key) h (eq-eqb q.0 key e)
no_key (q ∷ qs) key h (suc k) d l e = no_key qs key (none_rest q (q.0 == key) (value_at qs key) h) k d (omega (arith, l)) e

pub params_more : (tokens mid left : List TokenSeen) (start : ℕ) (old now new : List ℕ) (p : ℕ × List ℕ) → TakesParams tokens mid old now → start ≡ length old
    → mid ≢ [] → SpellsFirstParam mid p left → BeginsWithOneParam mid p left → GainsParam p start now new → ReadsParam mid p left → TakesParams tokens left old new
params_more tokens mid left start old now new p h begins some spelled only gains read =
    let g = gains old h.params (record { fitting = h.fitting; begins = begins; whole = h.gained }) in
    record {
      params = h.params ++ p ∷ [];
      spelled = fronts_more tokens mid left h.params p h.spelled spelled;
      read = reads_more tokens mid left h.params p h.read read;
      once = all_pairs_push (λ p q. p.0 ≢ q.0) h.params p h.once (no_key h.params p.0 g.0.1);
      fitting = All-append (λ p. length p.1 < 65536) h.params (p ∷ []) h.fitting (All-cons (λ p. length p.1 < 65536) p [] g.0.0 (All-nil (λ p. length p.1 < 65536)));
      gained = g.1;
      go_on = λ all k.
          let on = h.go_on all k in let front = front_goes_on mid left p on.0 some only on.2 in
          (front.0, on.1 ∙ ap (λ ps. h.params ++ ps) front.1 ∙ sym (append_assoc h.params (p ∷ []) front.0), front.2);
    }

pub params_all : (tokens left : List TokenSeen) (old new part : List ℕ) → TakesParams tokens left old new → left ≡ [] → ((octets : List ℕ) → new ≡ old ++ octets → part ≡ octets) → AreRightParams part → Gains (SpellsParams tokens) old new
params_all tokens left old new part h e is right = (
  params_wire h.params,
  record {
    params = h.params;
    spelled = subst (λ ts. SpellsFirstParams tokens h.params ts) e h.spelled;
    once = h.once;
    fitting = h.fitting;
    whole = refl;
    right = subst (λ octets. AreRightParams octets) (is (params_wire h.params) h.gained) right;
  },
  h.gained,
)

-- a parameter has a token
pub fewer_tokens : (tokens left : List TokenSeen) (name value : List ℕ) → SplitsParam tokens name value left → length left < length tokens
fewer_tokens [] left name value h = absurd h
fewer_tokens (t ∷ tokens) left name value h = elim h.1 [
  | inl w ↦ (let e = ap length w.1 in omega (arith, e))
  | inr q ↦ (let e = ap length q.1.2 in omega (arith, e))
]

params_read : (tokens left : List TokenSeen) (old new : List ℕ) (h : TakesParams tokens left old new) → ReadsParams tokens h.params left
params_read tokens left old new h = record { read = h.read; once = h.once; fitting = h.fitting }

-- the next parameter is rejected
pub next_refused : (room : Room) (tokens mid left : List TokenSeen) (start : ℕ) (old now : List ℕ) (e : ErrorKind) → TakesParams tokens mid old now → start ≡ length old → mid ≢ []
    → RefusesNew room start mid left now e → RefusesSpelled (ExceedsParams room tokens left old) (SpellsParams tokens) (ParamsReason tokens left) e
next_refused room tokens mid left start old now e h begins some refuses = by (refuses old h.params (record { fitting = h.fitting; begins = begins; whole = h.gained }))
  where
    fits_behind : (ps : List (ℕ × List ℕ)) (p : ℕ × List ℕ) (more : List (ℕ × List ℕ)) → HasFittingValues (ps ++ p ∷ more) → length p.1 < 65536
    fits_behind [] p more k = All-head (λ p. length p.1 < 65536) p more k
    fits_behind (q ∷ ps) p more k = fits_behind ps p more (All-tail (λ p. length p.1 < 65536) q (ps ++ p ∷ more) k)

    next_of : (octets : List ℕ) (s : SpellsParams tokens octets) (more : List (ℕ × List ℕ)) → s.params ≡ h.params ++ more → SpellsFirstParams mid more [] → (new : List ℕ) × SpellsNew h.params mid new
    next_of octets s [] is k = absurd (some k)
    next_of octets s (p ∷ more) is k =
        let once : AllPairs (λ p q. p.0 ≢ q.0) (h.params ++ p ∷ more) = subst (λ ps. AllPairs (λ p q. p.0 ≢ q.0) ps) is s.once in
        let fitting : HasFittingValues (h.params ++ p ∷ more) = subst HasFittingValues is s.fitting in
        let none = new_of_all h.params more p once in
        (param_head p.0 ++ p.1, (p, k.0, k.1, goes_on_apart k.0 more k.2, (fits_behind h.params p more fitting, none), refl))

    of : (octets : List ℕ) → SpellsParams tokens octets → (new : List ℕ) × SpellsNew h.params mid new
    of octets s = let on = h.go_on s.params s.spelled in next_of octets s on.0 on.1 on.2

    by : RefusesSpelled (ExceedsNew room mid left now) (SpellsNew h.params mid) (ParamReason h.params mid left) e → RefusesSpelled (ExceedsParams room tokens left old) (SpellsParams tokens) (ParamsReason tokens left) e
    by (inl l) = inl (l.0, (h.params, mid, params_read tokens mid old now h, subst (ExceedsNew room mid left) h.gained l.1))
    by (inr n) = inr ((h.params, mid, params_read tokens mid old now h, inl n.0), λ octets s. (let k = of octets s in n.1 k.0 k.1))

-- why parameters are wrong together
pub together_refused : (tokens left : List TokenSeen) (old new part : List ℕ) (e : ErrorKind) → TakesParams tokens left old new → left ≡ [] → ((octets : List ℕ) → new ≡ old ++ octets → part ≡ octets) → IsParamsFault e part → ParamsReason tokens left e
together_refused tokens left old new part e h none is fault = (h.params, left, params_read tokens left old new h, inr (none, none, subst (IsParamsFault e) (is (params_wire h.params) h.gained) fault))

-- parameters that are wrong together
pub none_right : (tokens left : List TokenSeen) (old new part : List ℕ) → TakesParams tokens left old new → left ≡ [] → ((octets : List ℕ) → new ≡ old ++ octets → part ≡ octets) → ¬ AreRightParams part
    → (octets : List ℕ) → SpellsParams tokens octets → ⊥
none_right tokens left old new part h e is wrong octets s =
    let on = h.go_on s.params s.spelled in
    let all = no_more on.0 (subst (λ ts. SpellsFirstParams ts on.0 []) e on.2) in
    let same : s.params ≡ h.params = on.1 ∙ ap (λ ps. h.params ++ ps) all ∙ append-nil h.params in
    wrong (subst AreRightParams (s.whole ∙ ap params_wire same ∙ sym (is (params_wire h.params) h.gained)) s.right)
  where
    no_more : (more : List (ℕ × List ℕ)) → SpellsFirstParams [] more [] → more ≡ []
    no_more [] k = refl
    no_more (p ∷ more) k = absurd k.1.split

pub some_left : (o : Option EntryToken) (left : List TokenSeen) → option_map token_seen o ≡ slice_get left 0 → is_some o ≡ true → left ≢ []
some_left None left h some = absurd (true≢false (sym some))
some_left (Some t) [] h some = absurd (none-some (token_seen t) (sym h))
some_left (Some t) (u ∷ left) h some = λ is. cc is
