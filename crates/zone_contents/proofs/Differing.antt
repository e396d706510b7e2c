-- How two sorted lists differ, found by comparing their first elements.
use Rattle.std.proofs.Common.{ℕ, zero, suc, ◌≡◌, ◌≢◌, Bool, true, false, cond, Option, Some, None, ◌⊎◌, inl, inr, List, [], ◌∷◌, refl, sym, ap, subst, ◌∙◌, arith}
use Rattle.std.specs.Prelude.{find, Any, option_map}
use Rattle.std.specs.Cmp.{IsTotalOrder, Equal-is}
use Rattle.std.specs.List.{AllByRecursion}
use Rattle.std.specs.List.Sorted.{IsStrictlySortedBy}
use Rattle.std.specs.Ordering.{eq_by_cmp, is_eq, on, ordering_reverse}
use Rattle.std.specs.declared.cmp.Ordering.{Ordering}
use Rattle.std.specs.declared.cmp.Ordering.TheVariants.{Less, Equal}
use Rattle.std.proofs.lemmas.Cmp.{alike_right, tied_itself}

-- what is found is the first element, or is found after it
found_step : {X : Type 0} (b : Bool) (x y : X) (rest : Option X) → cond b (Some x) rest ≡ Some y → ((b ≡ true) × (x ≡ y)) ⊎ ((b ≡ false) × (rest ≡ Some y))
found_step true x y rest h = inl (refl, cc)
found_step false x y rest h = inr (refl, h)

pub found_has : {X : Type 0} (p : X → Bool) (P : X → Type 0) (xs : List X) (y : X) → find p xs ≡ Some y → AllByRecursion P xs → P y × (p y ≡ true)
found_has p P [] y h all = cc
found_has p P (x ∷ xs) y h all = elim (found_step (p x) x y (find p xs) h) [ inl w ↦ (subst P w.1 all.0, subst (λ z. p z ≡ true) w.1 w.0) | inr w ↦ found_has p P xs y w.1 all.1 ]

any_here : {X : Type 0} (P : X → Type 0) (x : X) (xs : List X) → P x → Any P (x ∷ xs)
any_here P x xs h = (zero, x, omega arith, refl, h)

any_there : {X : Type 0} (P : X → Type 0) (x : X) (xs : List X) → Any P xs → Any P (x ∷ xs)
any_there P x xs (k, y, lt, at, h) = (suc k, y, omega (arith, lt), at, h)

some_same : (m n : ℕ) → Some m ≡ Some n → m ≡ n
some_same m n h = cc

some_none : (m : ℕ) → Some m ≡ None → ⊥
some_none m h = cc

module _ {X : Type 0} {R : X → X → Ordering} (o : IsTotalOrder R) (ttl : X → ℕ) where
  abbrev pub Above : X → List X → Type 0
  Above a xs = AllByRecursion (λ y. R a y ≡ Less) xs

  abbrev pub ttl_at : X → List X → Option ℕ
  ttl_at r xs = option_map ttl (find (eq_by_cmp R r) xs)

  same_less : (a k y : X) → R a y ≡ Less → eq_by_cmp R k y ≡ true → R a k ≡ Less
  same_less a k y less same = alike_right o k y a ((Equal-is (R k y)).0 same) ∙ less

  not_front : (a k : X) → R a k ≡ Less → eq_by_cmp R k a ≡ false
  not_front a k less = ap is_eq (o.antisymm k a) ∙ ap (λ c. is_eq (ordering_reverse c)) less

  behind_front : (a k : X) (xs : List X) → R a k ≡ Less → find (eq_by_cmp R k) (a ∷ xs) ≡ find (eq_by_cmp R k) xs
  behind_front a k xs less = ap (λ b. cond b (Some a) (find (eq_by_cmp R k) xs)) (not_front a k less)

  at_front : (a : X) (xs : List X) → find (eq_by_cmp R a) (a ∷ xs) ≡ Some a
  at_front a xs = ap (λ c. cond (is_eq c) (Some a) (find (eq_by_cmp R a) xs)) (tied_itself o a)

  none_above : (a : X) (xs : List X) → Above a xs → find (eq_by_cmp R a) xs ≡ None
  none_above a [] above = refl
  none_above a (x ∷ xs) above = ap (λ c. cond (is_eq c) (Some x) (find (eq_by_cmp R a) xs)) above.0 ∙ none_above a xs above.1

  pub above_less : (a b : X) (xs : List X) → R a b ≡ Less → Above b xs → Above a xs
  above_less a b [] less above = tt
  above_less a b (x ∷ xs) less above = (o.trans a b x less above.0, above_less a b xs less above.1)

  agree_step : (p q : Bool) (a b : X) (u v : Option X) (A : Type 0) → p ≡ q → ttl a ≡ ttl b → (option_map ttl u ≡ option_map ttl v) ⊎ A
      → (option_map ttl (cond p (Some a) u) ≡ option_map ttl (cond q (Some b) v)) ⊎ A
  agree_step true true a b u v A e t h = inl (ap Some t)
  agree_step true false a b u v A e t h = cc
  agree_step false true a b u v A e t h = cc
  agree_step false false a b u v A e t h = h

  module _ {C : Type 0} (key : C → X) (before after : C → Option X) where
    -- a change has what both lists have under its key, and these differ
    abbrev pub Tells : List X → List X → C → Type 0
    Tells old new c =
        (before c ≡ find (eq_by_cmp R (key c)) old) × (after c ≡ find (eq_by_cmp R (key c)) new) × (option_map ttl (before c) ≢ option_map ttl (after c))

    pub record Difference (old new : List X) (changes : List C) : Type 0 where
      pub ordered : IsStrictlySortedBy (on key R) changes
      pub told : AllByRecursion (Tells old new) changes
      pub complete : (r : X) → (ttl_at r old ≡ ttl_at r new) ⊎ Any (λ c. eq_by_cmp R r (key c) ≡ true) changes

    key_behind : (a : X) (old new : List X) (c : C) → Above a old → Above a new → Tells old new c → (u v : Option X) → find (eq_by_cmp R (key c)) old ≡ u → find (eq_by_cmp R (key c)) new ≡ v
        → R a (key c) ≡ Less
    key_behind a old new c p q told (Some y) v e f = let has = found_has (eq_by_cmp R (key c)) (λ y. R a y ≡ Less) old y e p in same_less a (key c) y has.0 has.1
    key_behind a old new c p q told None (Some y) e f = let has = found_has (eq_by_cmp R (key c)) (λ y. R a y ≡ Less) new y f q in same_less a (key c) y has.0 has.1
    key_behind a old new c p q told None None e f = absurd (told.2 (ap (option_map ttl) (told.0 ∙ e) ∙ sym (ap (option_map ttl) (told.1 ∙ f))))

    keys_behind : (a : X) (old new : List X) (cs : List C) → Above a old → Above a new → AllByRecursion (Tells old new) cs → AllByRecursion (λ c. R a (key c) ≡ Less) cs
    keys_behind a old new [] p q told = tt
    keys_behind a old new (c ∷ cs) p q told = (key_behind a old new c p q told.0 _ _ refl refl, keys_behind a old new cs p q told.1)

    told_left : (a : X) (old new : List X) (cs : List C) → AllByRecursion (λ c. R a (key c) ≡ Less) cs → AllByRecursion (Tells old new) cs → AllByRecursion (Tells (a ∷ old) new) cs
    told_left a old new [] less told = tt
    told_left a old new (c ∷ cs) less told = ((told.0.0 ∙ sym (behind_front a (key c) old less.0), told.0.1, told.0.2), told_left a old new cs less.1 told.1)

    told_right : (a : X) (old new : List X) (cs : List C) → AllByRecursion (λ c. R a (key c) ≡ Less) cs → AllByRecursion (Tells old new) cs → AllByRecursion (Tells old (a ∷ new)) cs
    told_right a old new [] less told = tt
    told_right a old new (c ∷ cs) less told = ((told.0.0, told.0.1 ∙ sym (behind_front a (key c) new less.0), told.0.2), told_right a old new cs less.1 told.1)

    less_same : (a b : X) (cs : List C) → R a b ≡ Equal → AllByRecursion (λ c. R a (key c) ≡ Less) cs → AllByRecursion (λ c. R b (key c) ≡ Less) cs
    less_same a b [] e h = tt
    less_same a b (c ∷ cs) e h = (sym (o.congr a b (key c) e) ∙ h.0, less_same a b cs e h.1)

    above_same : (a b : X) (xs : List X) → R a b ≡ Equal → Above b xs → Above a xs
    above_same a b [] e h = tt
    above_same a b (x ∷ xs) e h = (o.congr a b x e ∙ h.0, above_same a b xs e h.1)

    same_tests : (a b r : X) → R a b ≡ Equal → eq_by_cmp R r a ≡ eq_by_cmp R r b
    same_tests a b r e = ap is_eq (alike_right o a b r e)

    pub nothing : Difference [] [] []
    unfolding IsStrictlySortedBy
    nothing = record { ordered = tt; told = tt; complete = λ r. inl refl }

    -- both first elements have one key and one TTL
    pub same_fronts : (a b : X) (old new : List X) (cs : List C) → R a b ≡ Equal → ttl a ≡ ttl b → Above a old → Above b new → Difference old new cs → Difference (a ∷ old) (b ∷ new) cs
    same_fronts a b old new cs e t p q d =
        let less = keys_behind a old new cs p (above_same a b new e q) d.told in record {
          ordered = d.ordered;
          told = told_left a old (b ∷ new) cs less (told_right b old new cs (less_same a b cs e less) d.told);
          complete = λ r. agree_step (eq_by_cmp R r a) (eq_by_cmp R r b) a b (find (eq_by_cmp R r) old) (find (eq_by_cmp R r) new) (Any (λ c. eq_by_cmp R r (key c) ≡ true) cs)
              (same_tests a b r e) t (d.complete r);
        }

    -- a key is that of the first change, or the first change doesn't affect it
    named_or : (b : Bool) (r : X) (c : C) (cs : List C) (u v x y : Option X) → eq_by_cmp R r (key c) ≡ b → (b ≡ false → (x ≡ u) × (y ≡ v))
        → (option_map ttl u ≡ option_map ttl v) ⊎ Any (λ c. eq_by_cmp R r (key c) ≡ true) cs
        → (option_map ttl x ≡ option_map ttl y) ⊎ Any (λ c. eq_by_cmp R r (key c) ≡ true) (c ∷ cs)
    named_or true r c cs u v x y e at h = inr (any_here (λ c. eq_by_cmp R r (key c) ≡ true) c cs e)
    named_or false r c cs u v x y e at (inl h) = inl (ap (option_map ttl) (at refl).0 ∙ h ∙ sym (ap (option_map ttl) (at refl).1))
    named_or false r c cs u v x y e at (inr h) = inr (any_there (λ c. eq_by_cmp R r (key c) ≡ true) c cs h)

    -- both first elements have one key, and their TTLs differ
    pub other_fronts : (a b : X) (old new : List X) (c : C) (cs : List C) → R a b ≡ Equal → ttl a ≢ ttl b → Above a old → Above b new → key c ≡ a → before c ≡ Some a → after c ≡ Some b
        → Difference old new cs → Difference (a ∷ old) (b ∷ new) (c ∷ cs)
    unfolding IsStrictlySortedBy
    other_fronts a b old new c cs e t p q k was is d =
        let less = keys_behind a old new cs p (above_same a b new e q) d.told in
        let here : Tells (a ∷ old) (b ∷ new) c = (
          was ∙ sym (at_front a old) ∙ ap (λ x. find (eq_by_cmp R x) (a ∷ old)) (sym k),
          is ∙ sym (ap (λ o. cond (is_eq o) (Some b) (find (eq_by_cmp R a) new)) e) ∙ ap (λ x. find (eq_by_cmp R x) (b ∷ new)) (sym k),
          λ h. t (some_same (ttl a) (ttl b) (sym (ap (option_map ttl) was) ∙ h ∙ ap (option_map ttl) is)),
        ) in record {
          ordered = (subst (λ x. AllByRecursion (λ c. R x (key c) ≡ Less) cs) (sym k) less, d.ordered);
          told = (here, told_left a old (b ∷ new) cs less (told_right b old new cs (less_same a b cs e less) d.told));
          complete = λ r. named_or (eq_by_cmp R r (key c)) r c cs (find (eq_by_cmp R r) old) (find (eq_by_cmp R r) new) _ _ refl
              (λ none. (
                ap (λ t. cond t (Some a) (find (eq_by_cmp R r) old)) (ap (eq_by_cmp R r) (sym k) ∙ none),
                ap (λ t. cond t (Some b) (find (eq_by_cmp R r) new))
                    (sym (same_tests a b r e) ∙ ap (eq_by_cmp R r) (sym k) ∙ none),
              ))
              (d.complete r);
        }

    -- the first element of the first list has a key that the second lacks
    pub removed_front : (a : X) (old new : List X) (c : C) (cs : List C) → Above a old → Above a new → key c ≡ a → before c ≡ Some a → after c ≡ None → Difference old new cs
        → Difference (a ∷ old) new (c ∷ cs)
    unfolding IsStrictlySortedBy
    removed_front a old new c cs p q k was is d =
        let less = keys_behind a old new cs p q d.told in
        let here : Tells (a ∷ old) new c = (
          was ∙ sym (at_front a old) ∙ ap (λ x. find (eq_by_cmp R x) (a ∷ old)) (sym k),
          is ∙ sym (none_above a new q) ∙ ap (λ x. find (eq_by_cmp R x) new) (sym k),
          λ h. some_none (ttl a) (sym (ap (option_map ttl) was) ∙ h ∙ ap (option_map ttl) is),
        ) in record {
          ordered = (subst (λ x. AllByRecursion (λ c. R x (key c) ≡ Less) cs) (sym k) less, d.ordered);
          told = (here, told_left a old new cs less d.told);
          complete = λ r. named_or (eq_by_cmp R r (key c)) r c cs (find (eq_by_cmp R r) old) (find (eq_by_cmp R r) new) _ _ refl
              (λ none. (ap (λ t. cond t (Some a) (find (eq_by_cmp R r) old)) (ap (eq_by_cmp R r) (sym k) ∙ none), refl))
              (d.complete r);
        }

  module _ {C : Type 0} (key : C → X) (before after : C → Option X) where
    turn_told : (old new : List X) (cs : List C) → AllByRecursion (Tells key before after old new) cs → AllByRecursion (Tells key after before new old) cs
    turn_told old new [] h = tt
    turn_told old new (c ∷ cs) h = ((h.0.1, h.0.0, λ e. h.0.2 (sym e)), turn_told old new cs h.1)

    turn_either : (u v : Option ℕ) (A : Type 0) → (u ≡ v) ⊎ A → (v ≡ u) ⊎ A
    turn_either u v A (inl h) = inl (sym h)
    turn_either u v A (inr h) = inr h

    turned : (old new : List X) (cs : List C) → Difference key before after old new cs → Difference key after before new old cs
    turned old new cs d = record {
      ordered = d.ordered;
      told = turn_told old new cs d.told;
      complete = λ r. turn_either (ttl_at r old) (ttl_at r new) (Any (λ c. eq_by_cmp R r (key c) ≡ true) cs) (d.complete r);
    }

  module _ {C : Type 0} (key : C → X) (before after : C → Option X) where
    -- the first element of the second list has a key that the first lacks
    pub added_front : (b : X) (old new : List X) (c : C) (cs : List C) → Above b old → Above b new → key c ≡ b → before c ≡ None → after c ≡ Some b → Difference key before after old new cs
        → Difference key before after old (b ∷ new) (c ∷ cs)
    added_front b old new c cs p q k was is d = turned key after before (b ∷ new) old (c ∷ cs) (removed_front key after before b new old c cs q p k is was (turned key before after old new cs d))
