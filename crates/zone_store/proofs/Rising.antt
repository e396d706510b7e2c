-- Lists that rise by an order.
use Rattle.std.proofs.Common.{ℕ, zero, suc, ◌≡◌, ◌+◌, ◌<◌, ◌≤◌, List, [], ◌∷◌, length, get_or, refl, sym, ap, ◌∙◌, arith, subst}
use Rattle.std.specs.Prelude.{All, Bool, true, false, nat_lt}
use Rattle.std.specs.Prelude.{cond}
use Rattle.std.specs.Cmp.{IsStrictWeakOrder}
use Rattle.std.specs.List.{filter, sum_by}
use Rattle.std.specs.List.Sorted.{IsSortedBy}
use Rattle.std.proofs.lemmas.Bool.Decides.{nat_tests}
use Rattle.std.proofs.lemmas.List.Elements.{All-head, All-tail}
use Rattle.std.proofs.lemmas.List.Sums.{sum_by-cons}

-- no element of a list is less than another
unfoldable pub NoneLess : {X : Type 0} → (X → X → Bool) → X → List X → Type 0
NoneLess lt x [] = Unit {0}
NoneLess lt x (y ∷ ys) = (lt y x ≡ false) × NoneLess lt x ys

-- no element is less than an earlier one
unfoldable pub Rises : {X : Type 0} → (X → X → Bool) → List X → Type 0
Rises lt [] = Unit {0}
Rises lt (x ∷ xs) = NoneLess lt x xs × Rises lt xs

tail_sorted : {X : Type 0} (lt : X → X → Bool) (x : X) (xs : List X) → IsSortedBy lt (x ∷ xs) → IsSortedBy lt xs
tail_sorted lt x xs h k d low high =
    let next : suc k + 1 ≡ suc (k + 1) = omega arith in
    subst (λ (n : ℕ). lt (get_or (x ∷ xs) n d) (get_or xs k d) ≡ false) next (h (suc k) d (omega arith) (omega (arith, high)))

none_chain : {X : Type 0} (lt : X → X → Bool) → IsStrictWeakOrder lt → (x y : X) (zs : List X) → lt y x ≡ false → NoneLess lt y zs → NoneLess lt x zs
unfolding NoneLess
none_chain lt w x y [] h n = tt
none_chain lt w x y (z ∷ zs) h n = (w.chain z y x n.0 h, none_chain lt w x y zs h n.1)

pub rises_from_sorted : {X : Type 0} (lt : X → X → Bool) → IsStrictWeakOrder lt → (xs : List X) → IsSortedBy lt xs → Rises lt xs
unfolding Rises NoneLess
rises_from_sorted lt w [] h = tt
rises_from_sorted lt w (x ∷ []) h = (tt, tt)
rises_from_sorted lt w (x ∷ y ∷ ys) h =
    let more = rises_from_sorted lt w (y ∷ ys) (tail_sorted lt x (y ∷ ys) h) in
    let first : lt y x ≡ false = h 0 x (omega arith) (omega arith) in
    ((first, none_chain lt w x y ys first more.0), more)

adjacent : {X : Type 0} (lt : X → X → Bool) (xs : List X) → Rises lt xs → (k : ℕ) (d : X) → k + 1 < length xs → lt (get_or xs (k + 1) d) (get_or xs k d) ≡ false
unfolding Rises NoneLess
adjacent lt [] r k d h = absurd (omega (arith, h))
adjacent lt (x ∷ []) r k d h = absurd (omega (arith, h))
adjacent lt (x ∷ y ∷ ys) r zero d h = r.0.0
adjacent lt (x ∷ y ∷ ys) r (suc k) d h =
    let next : suc (k + 1) ≡ suc k + 1 = omega arith in
    subst (λ (n : ℕ). lt (get_or (x ∷ y ∷ ys) n d) (get_or (y ∷ ys) k d) ≡ false) next (adjacent lt (y ∷ ys) r.1 k d (omega (arith, h)))

pub sorted_from_rises : {X : Type 0} (lt : X → X → Bool) (xs : List X) → Rises lt xs → IsSortedBy lt xs
sorted_from_rises lt xs r k d low high = adjacent lt xs r k d high

none_filter : {X : Type 0} (lt : X → X → Bool) (q : X → Bool) (x : X) (ys : List X) → NoneLess lt x ys → NoneLess lt x (filter q ys)
unfolding NoneLess
none_filter lt q x [] n = tt
none_filter lt q x (y ∷ ys) n = by (none_filter lt q x ys n.1) (q y)
  where
    by : NoneLess lt x (filter q ys) → (b : Bool) → NoneLess lt x (cond b (y ∷ filter q ys) (filter q ys))
    by more true = (n.0, more)
    by more false = more

pub rises_filter : {X : Type 0} (lt : X → X → Bool) (q : X → Bool) (xs : List X) → Rises lt xs → Rises lt (filter q xs)
unfolding Rises
rises_filter lt q [] r = tt
rises_filter lt q (x ∷ xs) r = by (rises_filter lt q xs r.1) (q x)
  where
    by : Rises lt (filter q xs) → (b : Bool) → Rises lt (cond b (x ∷ filter q xs) (filter q xs))
    by more true = (none_filter lt q x xs r.0, more)
    by more false = more

-- lists of the same elements that rise by a number are one list, where elements of one number are equal
module _ {X : Type 0} (n : X → ℕ) (Good : X → Type 0) (apart : (a b : X) → Good a → Good b → n a ≡ n b → a ≡ b) where
  abbrev by_number : X → X → Bool
  by_number a b = nat_lt (n a) (n b)

  abbrev count_if : Bool → ℕ
  count_if b = cond b 1 0

  abbrev one_below : ℕ → X → ℕ
  one_below m x = count_if (nat_lt (n x) m)

  at_least : (a m : ℕ) → count_if (nat_lt a m) ≡ 0 → m ≤ a
  at_least a m h = Prim.grind (arith, nat_tests)

  none_below : (x : X) (xs : List X) → NoneLess by_number x xs → sum_by (one_below (n x)) xs ≡ 0
  unfolding NoneLess
  none_below x [] h = refl
  none_below x (y ∷ ys) h = sum_by-cons (one_below (n x)) y ys ∙ rw (h.0, none_below x ys h.1) refl

  itself : (m : ℕ) → count_if (nat_lt m m) ≡ 0
  itself m = Prim.grind (arith, nat_tests)

  least : (x y : X) (xs ys : List X) → NoneLess by_number x xs → sum_by (one_below (n x)) (x ∷ xs) ≡ sum_by (one_below (n x)) (y ∷ ys) → n x ≤ n y
  least x y xs ys r same =
      at_least (n y) (n x) (omega (arith, same, sum_by-cons (one_below (n x)) x xs, sum_by-cons (one_below (n x)) y ys, none_below x xs r, itself (n x)))

  pub one_list : (xs ys : List X) → All Good xs → All Good ys → Rises by_number xs → Rises by_number ys → ((f : X → ℕ) → sum_by f xs ≡ sum_by f ys) → xs ≡ ys
  unfolding Rises
  one_list [] [] g h r s same = refl
  one_list [] (y ∷ ys) g h r s same = absurd (omega (arith, same (λ _. 1), sum_by-cons (λ (x : X). 1) y ys))
  one_list (x ∷ xs) [] g h r s same = absurd (omega (arith, same (λ _. 1), sum_by-cons (λ (x : X). 1) x xs))
  one_list (x ∷ xs) (y ∷ ys) g h r s same =
      let first : x ≡ y = apart x y (All-head Good x xs g) (All-head Good y ys h) (omega (arith, least x y xs ys r.0 (same (one_below (n x))), least y x ys xs s.0 (sym (same (one_below (n y)))))) in
      λ i. first i ∷ one_list xs ys (All-tail Good x xs g) (All-tail Good y ys h) r.1 s.1 (λ f. omega (arith, same f, sum_by-cons f x xs, sum_by-cons f y ys, ap f first)) i

pub sum_filter : {X : Type 0} (q : X → Bool) (f : X → ℕ) (xs : List X) → sum_by f (filter q xs) ≡ sum_by (λ x. cond (q x) (f x) 0) xs
sum_filter q f [] = refl
sum_filter {X} q f (x ∷ xs) = by (sum_filter q f xs) (q x) ∙ sym (sum_by-cons (λ y. cond (q y) (f y) 0) x xs)
  where
    by : sum_by f (filter q xs) ≡ sum_by (λ y. cond (q y) (f y) 0) xs → (b : Bool) → sum_by f (cond b (x ∷ filter q xs) (filter q xs)) ≡ cond b (f x) 0 + sum_by (λ y. cond (q y) (f y) 0) xs
    by more true = sum_by-cons f x (filter q xs) ∙ ap (λ m. f x + m) more
    by more false = omega (arith, more)
