-- The first record under each key: in a list, in the sorted list, and without records equal to the one before.
use Rattle.std.proofs.Common.{◌≡◌, Bool, true, false, cond, not, ◌&&◌, Option, Some, None, List, [], ◌∷◌, refl, sym, ap, ◌∙◌}
use Rattle.std.specs.Prelude.{find, filter}
use Rattle.std.specs.Cmp.{IsTotalOrder, Equal-is}
use Rattle.std.specs.List.{dedup, dedup_from}
use Rattle.std.specs.List.Sorted.{IsStableBy, ties}
use Rattle.std.specs.Ordering.{eq_by_cmp, is_eq, is_lt, ordering_reverse}
use Rattle.std.specs.declared.cmp.Ordering.{Ordering}
use Rattle.std.specs.declared.cmp.Ordering.TheVariants.{Less, Equal, Greater}
use Rattle.std.proofs.lemmas.Bool.{cond_both}
use Rattle.std.proofs.lemmas.Cmp.{alike_right}

-- the first of a list
abbrev front : {X : Type 0} → List X → Option X
front [] = None
front (x ∷ xs) = Some x

find_in_filter : {X : Type 0} (p : X → Bool) (xs : List X) → find p xs ≡ front (filter p xs)
find_in_filter p [] = refl
find_in_filter p (x ∷ xs) =
    elim (p x) as (λ b. cond b (Some x) (find p xs) ≡ front (cond b (x ∷ filter p xs) (filter p xs))) [ true ↦ refl | false ↦ find_in_filter p xs ]

tie_is : (a b : Ordering) → a ≡ ordering_reverse b → is_eq a ≡ not (is_lt a) && not (is_lt b)
tie_is Less Less h = cc
tie_is Less Equal h = cc
tie_is Less Greater h = refl
tie_is Equal Less h = cc
tie_is Equal Equal h = refl
tie_is Equal Greater h = cc
tie_is Greater Less h = refl
tie_is Greater Equal h = cc
tie_is Greater Greater h = cc

-- a second test with the same result changes nothing
twice : {Y : Type 0} (b : Bool) (y rest : Y) (c : Bool) (z : Y) → c ≡ b → cond b y rest ≡ cond b y (cond c z rest)
twice true y rest c z h = refl
twice false y rest c z h = ap (λ t. cond t z rest) (sym h)

module _ {X : Type 0} {R : X → X → Ordering} (o : IsTotalOrder R) where
  same_is_tie : (r : X) → eq_by_cmp R r ≡ ties (λ x y. is_lt (R x y)) r
  same_is_tie r = λ i x. tie_is (R r x) (R x r) (o.antisymm r x) i

  -- a stable sort
  pub find_stable : (r : X) (xs ys : List X) → IsStableBy (λ x y. is_lt (R x y)) xs ys → find (eq_by_cmp R r) ys ≡ find (eq_by_cmp R r) xs
  find_stable r xs ys stable =
      find_in_filter (eq_by_cmp R r) ys ∙ ap (λ p. front (filter p ys)) (same_is_tie r) ∙ ap front (stable r)
      ∙ sym (ap (λ p. front (filter p xs)) (same_is_tie r)) ∙ sym (find_in_filter (eq_by_cmp R r) xs)

  alike : (r x y : X) → eq_by_cmp R x y ≡ true → eq_by_cmp R r x ≡ eq_by_cmp R r y
  alike r x y h = ap is_eq (alike_right o x y r ((Equal-is (R x y)).0 h))

  find_dedup_from : (r k : X) (xs : List X) → find (eq_by_cmp R r) (dedup_from (eq_by_cmp R) k xs) ≡ cond (eq_by_cmp R r k) (Some k) (find (eq_by_cmp R r) xs)
  find_dedup_from r k [] = refl
  find_dedup_from r k (x ∷ xs) =
      let E = eq_by_cmp R in
      cond_both (E x k) (dedup_from E k xs) (k ∷ dedup_from E x xs) (λ l. find (E r) l ≡ cond (E r k) (Some k) (cond (E r x) (Some x) (find (E r) xs)))
      (λ h. find_dedup_from r k xs ∙ twice (E r k) (Some k) (find (E r) xs) (E r x) (Some x) (alike r x k h))
      (λ _. ap (λ t. cond (E r k) (Some k) t) (find_dedup_from r x xs))

  pub find_dedup : (r : X) (xs : List X) → find (eq_by_cmp R r) (dedup (eq_by_cmp R) xs) ≡ find (eq_by_cmp R r) xs
  find_dedup r [] = refl
  find_dedup r (x ∷ xs) = find_dedup_from r x xs
