-- A rule is found if and only if a record breaks it.
use Rattle.std.proofs.Common.{ℕ, zero, suc, ◌≡◌, ◌+◌, ◌<◌, ◌⊎◌, ⊎_elim, inl, inr, Bool, true, false, cond, Option, List, [], ◌∷◌, ◌++◌, length, take, get_or, refl, sym, ap, ◌∙◌, arith}
use Rattle.std.specs.List.{Contains, filter}
use Rattle.std.proofs.lemmas.List.Elements.{filter_more}
use Rattle.finding_codes.specs.declared.rule.Rule.{Rule}
use Rattle.rdata_fields.specs.declared.record_ref.RecordRef.{RecordRef}
use Rattle.record_rules.specs.FoundAlone.{lone_rules, FindsBrokenRules}
use Rattle.record_rules.specs.LoneRules.{breaks_record_rule}
use Rattle.record_rules.specs.declared.written.Written.{Written}

-- ---- elements of filtered lists

in_nothing : {X : Type 0} (x : X) → Contains [] x → ⊥
in_nothing x h = let lt = h.1 in omega arith

in_tail : {X : Type 0} (y : X) (xs : List X) (x : X) → Contains xs x → Contains (y ∷ xs) x
in_tail y xs x h = let lt = h.1 in (suc h.0, omega arith, h.2)

in_cons : {X : Type 0} (y : X) (xs : List X) (x : X) (k : ℕ) → k < length (y ∷ xs) → get_or (y ∷ xs) k x ≡ x → (y ≡ x) ⊎ Contains xs x
in_cons y xs x zero lt h = inl h
in_cons y xs x (suc k) lt h = inr (k, omega arith, h)

in_kept : {X : Type 0} (b : Bool) (y : X) (xs : List X) (x : X) → Contains xs x → Contains (cond b (y ∷ xs) xs) x
in_kept true y xs x h = in_tail y xs x h
in_kept false y xs x h = h

in_first : {X : Type 0} (b : Bool) (y : X) (xs : List X) (x : X) → b ≡ true → y ≡ x → Contains (cond b (y ∷ xs) xs) x
in_first true y xs x e is = (0, omega arith, is)
in_first false y xs x e is = cc

in_filter : {X : Type 0} (p : X → Bool) (xs : List X) (x : X) → p x ≡ true → Contains xs x → Contains (filter p xs) x
in_filter p [] x e h = absurd (in_nothing x h)
in_filter p (y ∷ xs) x e h =
    ⊎_elim (λ is. in_first (p y) y (filter p xs) x (ap p is ∙ e) is) (λ t. in_kept (p y) y (filter p xs) x (in_filter p xs x e t)) (in_cons y xs x h.0 h.1 h.2)

from_kept : {X : Type 0} (p : X → Bool) (b : Bool) (y : X) (xs : List X) (x : X) → p y ≡ b → (Contains xs x → p x ≡ true) → Contains (cond b (y ∷ xs) xs) x → p x ≡ true
from_kept p true y xs x e more h = ⊎_elim (λ is. sym (ap p is) ∙ e) more (in_cons y xs x h.0 h.1 h.2)
from_kept p false y xs x e more h = more h

from_filter : {X : Type 0} (p : X → Bool) (xs : List X) (x : X) → Contains (filter p xs) x → p x ≡ true
from_filter p [] x h = absurd (in_nothing x h)
from_filter p (y ∷ xs) x h = from_kept p (p y) y (filter p xs) x refl (λ t. from_filter p xs x t) h

kept_is_among : {X : Type 0} (b : Bool) (y : X) (xs : List X) (x : X) (more : List X) → (Contains more x → Contains xs x) → Contains (cond b (y ∷ more) more) x → Contains (y ∷ xs) x
kept_is_among true y xs x more h k = ⊎_elim (λ is. (0, omega arith, is)) (λ t. in_tail y xs x (h t)) (in_cons y more x k.0 k.1 k.2)
kept_is_among false y xs x more h k = in_tail y xs x (h k)

among_all : {X : Type 0} (p : X → Bool) (xs : List X) (x : X) → Contains (filter p xs) x → Contains xs x
among_all p [] x h = h
among_all p (y ∷ xs) x h = kept_is_among (p y) y xs x (filter p xs) (among_all p xs x) h

-- ---- rules

pub broken_rules_are_found : (r : RecordRef) (text : Option Written) → FindsBrokenRules r text
broken_rules_are_found r text =
    λ rule. (
      λ h. (among_all (breaks_record_rule r text) lone_rules rule h, from_filter (breaks_record_rule r text) lone_rules rule h),
      λ h. in_filter (breaks_record_rule r text) lone_rules rule h.1 h.0,
    )

-- ---- a loop over rules

-- the rules so far, and the next one
pub found_next : {X : Type 0} (p : X → Bool) (xs : List X) (i : ℕ) (d : X) (b : Bool) (old new : List X) → i < length xs → b ≡ p (get_or xs i d) → old ≡ filter p (take i xs)
    → new ≡ old ++ cond b (get_or xs i d ∷ []) [] → new ≡ filter p (take (i + 1) xs)
found_next p xs i d b old new lt is h e =
    e ∙ (λ j. h j ++ cond (is j) (get_or xs i d ∷ []) []) ∙ sym (filter_more p xs i d lt)
