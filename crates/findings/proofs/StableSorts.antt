-- A stable sort has one result, and the first of it need only the first of each part.
use Rattle.std.proofs.Common.{◌≡◌, ℕ, zero, suc, ◌+◌, Bool, true, false, cond, not, ◌&&◌, List, [], ◌∷◌, ◌++◌, take, drop, filter, get_or, IsPermutation, IsSortedBy, AllPairs, refl, sym, ap, ap₂, subst, ◌∙◌, append_assoc, append-nil, arith}
use Rattle.std.specs.Cmp.{IsStrictWeakOrder}
use Rattle.std.specs.List.{AllByRecursion}
use Rattle.std.specs.List.Sorted.{ties}
use Rattle.std.proofs.lemmas.Bool.{cond_both}
use Rattle.std.proofs.lemmas.List.Elements.{All-from_recursion, filter-append, recursion_from_All}
use Rattle.std.proofs.lemmas.List.Kept.{AllPairs-cons}
use Rattle.std.proofs.lemmas.List.Sorted.{IsPermutation-append_left, IsPermutation-cons, IsPermutation-refl, IsPermutation-to_front, IsPermutation-trans, sorted_far}

pub take_again : {X : Type 0} (n : ℕ) (xs : List X) → take n (take n xs) ≡ take n xs
take_again zero xs = refl
take_again (suc n) [] = refl
take_again (suc n) (x ∷ xs) = ap (λ l. x ∷ l) (take_again n xs)

take_shorter : {X : Type 0} (n : ℕ) (x : X) (xs : List X) → take n (x ∷ take n xs) ≡ take n (x ∷ xs)
take_shorter zero x xs = refl
take_shorter (suc n) x [] = refl
take_shorter (suc n) x (y ∷ ys) = ap (λ l. x ∷ l) (take_shorter n y ys)

-- a finding after those that are not greater, and one after another
abbrev pub placed : {X : Type 0} → (X → X → Bool) → X → List X → List X
placed lt f [] = f ∷ []
placed lt f (x ∷ xs) = cond (lt f x) (f ∷ x ∷ xs) (x ∷ placed lt f xs)

abbrev pub placed_all : {X : Type 0} → (X → X → Bool) → List X → List X → List X
placed_all lt l [] = l
placed_all lt l (f ∷ fs) = placed_all lt (placed lt f l) fs

-- none is less than one before it
abbrev pub Rising : {X : Type 0} → (X → X → Bool) → List X → Type 0
Rising lt [] = Unit {0}
Rising lt (x ∷ xs) = AllByRecursion (λ y. lt y x ≡ false) xs × Rising lt xs

-- an element that passes a test goes to the end, where no other passes it
moved : {X : Type 0} (b : Bool) (f : X) (passed : List X) → (b ≡ true → passed ≡ []) → cond b (f ∷ passed) passed ≡ passed ++ cond b (f ∷ []) []
moved true f passed h = ap (λ l. f ∷ l) (h refl) ∙ sym (ap (λ l. l ++ f ∷ []) (h refl))
moved false f passed h = sym (append-nil passed)

same_rest : {X : Type 0} (b : Bool) (y : X) (ys zs : List X) → cond b (y ∷ ys) ys ≡ cond b (y ∷ zs) zs → ys ≡ zs
same_rest true y ys zs h = ap (λ l. drop 1 l) h
same_rest false y ys zs h = h

both_not : (a b : Bool) → a ≡ false → b ≡ false → not a && not b ≡ true
both_not true b h k = absurd (let t : true ≡ false = h in cc)
both_not false true h k = absurd (let t : true ≡ false = k in cc)
both_not false false h k = refl

first_less : (a b : Bool) → a ≡ true → not a && not b ≡ false
first_less true b h = refl
first_less false b h = absurd (let t : false ≡ true = h in cc)

not_first : (a b : Bool) → not a && not b ≡ true → b ≡ false
not_first true b h = absurd (let t : false ≡ true = h in cc)
not_first false true h = absurd (let t : false ≡ true = h in cc)
not_first false false h = refl

is_true_if : (b : Bool) → (b ≡ false → ⊥) → b ≡ true
is_true_if true h = refl
is_true_if false h = absurd (h refl)

is_false_if : (b : Bool) → (b ≡ true → ⊥) → b ≡ false
is_false_if true h = absurd (h refl)
is_false_if false h = refl

module _ {X : Type 0} (lt : X → X → Bool) where
  take_placed : (n : ℕ) (f : X) (l : List X) → take n (placed lt f l) ≡ take n (placed lt f (take n l))
  take_placed zero f l = refl
  take_placed (suc n) f [] = refl
  take_placed (suc n) f (x ∷ xs) =
      elim (lt f x) as (λ b. take (suc n) (cond b (f ∷ x ∷ xs) (x ∷ placed lt f xs)) ≡ take (suc n) (cond b (f ∷ x ∷ take n xs) (x ∷ placed lt f (take n xs))))
      [ true ↦ ap (λ l. f ∷ l) (sym (take_shorter n x xs)) | false ↦ ap (λ l. x ∷ l) (take_placed n f xs) ]

  pub take_placed_all : (n : ℕ) (l fs : List X) → take n (placed_all lt l fs) ≡ take n (placed_all lt (take n l) fs)
  take_placed_all n l [] = sym (take_again n l)
  take_placed_all n l (f ∷ fs) =
      take_placed_all n (placed lt f l) fs
      ∙ ap (λ k. take n (placed_all lt k fs)) (take_placed n f l)
      ∙ sym (take_placed_all n (placed lt f (take n l)) fs)

  pub placed_append : (l fs gs : List X) → placed_all lt l (fs ++ gs) ≡ placed_all lt (placed_all lt l fs) gs
  placed_append l [] gs = refl
  placed_append l (f ∷ fs) gs = placed_append (placed lt f l) fs gs

  all_taken : (P : X → Type 0) (n : ℕ) (l : List X) → AllByRecursion P l → AllByRecursion P (take n l)
  all_taken P zero l h = tt
  all_taken P (suc n) [] h = tt
  all_taken P (suc n) (x ∷ xs) h = (h.0, all_taken P n xs h.1)

  pub rising_taken : (n : ℕ) (l : List X) → Rising lt l → Rising lt (take n l)
  rising_taken zero l h = tt
  rising_taken (suc n) [] h = tt
  rising_taken (suc n) (x ∷ xs) h = (all_taken (λ y. lt y x ≡ false) n xs h.0, rising_taken n xs h.1)

  all_placed : (P : X → Type 0) (f : X) (l : List X) → P f → AllByRecursion P l → AllByRecursion P (placed lt f l)
  all_placed P f [] p h = (p, tt)
  all_placed P f (x ∷ xs) p h =
      elim (lt f x) as (λ b. AllByRecursion P (cond b (f ∷ x ∷ xs) (x ∷ placed lt f xs))) [ true ↦ (p, h) | false ↦ (h.0, all_placed P f xs p h.1) ]

  permuted : (f : X) (l : List X) → IsPermutation (l ++ f ∷ []) (placed lt f l)
  permuted f [] = IsPermutation-refl (f ∷ [])
  permuted f (x ∷ xs) =
      cond_both (lt f x) (f ∷ x ∷ xs) (x ∷ placed lt f xs) (λ l. IsPermutation (x ∷ (xs ++ f ∷ [])) l)
      (λ _. IsPermutation-to_front (x ∷ xs) f)
      (λ _. IsPermutation-cons x (xs ++ f ∷ []) (placed lt f xs) (permuted f xs))

  pub permuted_all : (l fs : List X) → IsPermutation (l ++ fs) (placed_all lt l fs)
  permuted_all l [] = subst (λ k. IsPermutation k l) (sym (append-nil l)) (IsPermutation-refl l)
  permuted_all l (f ∷ fs) =
      let one : IsPermutation ((l ++ f ∷ []) ++ fs) (placed lt f l ++ fs) = IsPermutation-append_left fs (l ++ f ∷ []) (placed lt f l) (permuted f l) in
      IsPermutation-trans (l ++ f ∷ fs) (placed lt f l ++ fs) (placed_all lt (placed lt f l) fs)
      (subst (λ k. IsPermutation k (placed lt f l ++ fs)) (append_assoc l (f ∷ []) fs) one) (permuted_all (placed lt f l) fs)

  from_pairs : (xs : List X) → AllPairs (λ x y. lt y x ≡ false) xs → Rising lt xs
  from_pairs [] h = tt
  from_pairs (x ∷ xs) h = (
    recursion_from_All (λ y. lt y x ≡ false) xs (λ i d inside. h zero (suc i) d (omega arith) (omega arith)),
    from_pairs xs (λ i j d below inside. h (suc i) (suc j) d (omega arith) (omega arith)),
  )

  to_pairs : (xs : List X) → Rising lt xs → AllPairs (λ x y. lt y x ≡ false) xs
  to_pairs [] h = λ i j d below inside. absurd (omega arith)
  to_pairs (x ∷ xs) h = AllPairs-cons (λ a b. lt b a ≡ false) x xs (All-from_recursion (λ y. lt y x ≡ false) xs h.0) (to_pairs xs h.1)

  pub sorted_if_rising : (xs : List X) → Rising lt xs → IsSortedBy lt xs
  sorted_if_rising xs h k d low inside = to_pairs xs h k (k + 1) d (omega arith) inside

  module _ (o : IsStrictWeakOrder lt) where
    pub rising_if_sorted : (xs : List X) → IsSortedBy lt xs → Rising lt xs
    rising_if_sorted xs h = from_pairs xs (λ i j d below inside. sorted_far lt o xs h i j d (omega arith) inside)

    no_less : (f x : X) (ys : List X) → lt x f ≡ false → AllByRecursion (λ y. lt y x ≡ false) ys → AllByRecursion (λ y. lt y f ≡ false) ys
    no_less f x [] e h = tt
    no_less f x (y ∷ ys) e h = (o.chain y x f h.0 e, no_less f x ys e h.1)

    rising_placed : (f : X) (l : List X) → Rising lt l → Rising lt (placed lt f l)
    rising_placed f [] h = (tt, tt)
    rising_placed f (x ∷ xs) h =
        cond_both (lt f x) (f ∷ x ∷ xs) (x ∷ placed lt f xs) (λ l. Rising lt l)
        (λ is. let low = o.one_way f x is in ((low, no_less f x xs low h.0), h))
        (λ is. (all_placed (λ y. lt y x ≡ false) f xs is h.0, rising_placed f xs h.1))

    pub rising_all : (l fs : List X) → Rising lt l → Rising lt (placed_all lt l fs)
    rising_all l [] h = h
    rising_all l (f ∷ fs) h = rising_all (placed lt f l) fs (rising_placed f l h)

    -- ---- elements that tie keep their order

    -- what is less than one is less than those after it
    above : (f x : X) (ys : List X) → lt f x ≡ true → AllByRecursion (λ y. lt y x ≡ false) ys → AllByRecursion (λ y. lt f y ≡ true) ys
    above f x [] is h = tt
    above f x (y ∷ ys) is h = (is_true_if (lt f y) (λ none. let low : lt f x ≡ false = o.chain f y x none h.0 in cc), above f x ys is h.1)

    no_tie : (t f y : X) → ties lt t f ≡ true → lt f y ≡ true → ties lt t y ≡ false
    no_tie t f y tied is =
        first_less (lt t y) (lt y t)
        (is_true_if (lt t y) (λ none. let low : lt f y ≡ false = o.chain f t y (not_first (lt t f) (lt f t) tied) none in cc))

    no_ties : (t f : X) (ys : List X) → ties lt t f ≡ true → AllByRecursion (λ y. lt f y ≡ true) ys → filter (ties lt t) ys ≡ []
    no_ties t f [] tied h = refl
    no_ties t f (y ∷ ys) tied h =
        ap (λ b. cond b (y ∷ filter (ties lt t) ys) (filter (ties lt t) ys)) (no_tie t f y tied h.0) ∙ no_ties t f ys tied h.1

    filter_placed : (t f : X) (l : List X) → Rising lt l → filter (ties lt t) (placed lt f l) ≡ filter (ties lt t) (l ++ f ∷ [])
    filter_placed t f [] h = refl
    filter_placed t f (x ∷ xs) h =
        let T : X → Bool = ties lt t in
        cond_both (lt f x) (f ∷ x ∷ xs) (x ∷ placed lt f xs) (λ l. filter T l ≡ filter T (x ∷ (xs ++ f ∷ [])))
        (λ is. moved (T f) f (filter T (x ∷ xs)) (λ tied. no_ties t f (x ∷ xs) tied (is, above f x xs is h.0)) ∙ sym (filter-append T (x ∷ xs) (f ∷ [])))
        (λ _. ap (λ k. cond (T x) (x ∷ k) k) (filter_placed t f xs h.1))

    pub filter_all : (t : X) (l fs : List X) → Rising lt l → filter (ties lt t) (placed_all lt l fs) ≡ filter (ties lt t) (l ++ fs)
    filter_all t l [] h = ap (λ k. filter (ties lt t) k) (sym (append-nil l))
    filter_all t l (f ∷ fs) h =
        let T : X → Bool = ties lt t in
        filter_all t (placed lt f l) fs (rising_placed f l h)
        ∙ filter-append T (placed lt f l) fs
        ∙ ap (λ k. k ++ filter T fs) (filter_placed t f l h)
        ∙ sym (filter-append T (l ++ f ∷ []) fs)
        ∙ ap (λ k. filter T k) (append_assoc l (f ∷ []) fs)

    -- ---- one result

    tied_itself : (x : X) → ties lt x x ≡ true
    tied_itself x = let none : lt x x ≡ false = is_false_if (lt x x) (λ is. let low : lt x x ≡ false = o.one_way x x is in cc) in both_not (lt x x) (lt x x) none none

    kept_first : (t y : X) (ys : List X) → ties lt t y ≡ true → filter (ties lt t) (y ∷ ys) ≡ y ∷ filter (ties lt t) ys
    kept_first t y ys tied = ap (λ b. cond b (y ∷ filter (ties lt t) ys) (filter (ties lt t) ys)) tied

    -- the first of one is not less than the first of the other
    not_less : (y z : X) (ys zs : List X) → Rising lt (z ∷ zs) → filter (ties lt y) (y ∷ ys) ≡ filter (ties lt y) (z ∷ zs) → lt y z ≡ false
    not_less y z ys zs h same =
        is_false_if (lt y z)
        (λ is. let found : y ∷ filter (ties lt y) ys ≡ [] = sym (kept_first y y ys (tied_itself y)) ∙ same ∙ no_ties y y (z ∷ zs) (tied_itself y) (is, above y z zs is h.0) in cc)

    pub one_sort : (ys zs : List X) → Rising lt ys → Rising lt zs → ((t : X) → filter (ties lt t) ys ≡ filter (ties lt t) zs) → ys ≡ zs
    one_sort [] [] a b same = refl
    one_sort [] (z ∷ zs) a b same = absurd (let none : [] ≡ z ∷ filter (ties lt z) zs = same z ∙ kept_first z z zs (tied_itself z) in cc)
    one_sort (y ∷ ys) [] a b same = absurd (let none : y ∷ filter (ties lt y) ys ≡ [] = sym (kept_first y y ys (tied_itself y)) ∙ same y in cc)
    one_sort (y ∷ ys) (z ∷ zs) a b same =
        let up : lt y z ≡ false = not_less y z ys zs b (same y) in
        let down : lt z y ≡ false = not_less z y zs ys a (sym (same z)) in
        let tied : ties lt y z ≡ true = both_not (lt y z) (lt z y) up down in
        let heads : y ∷ filter (ties lt y) ys ≡ z ∷ filter (ties lt y) zs = sym (kept_first y y ys (tied_itself y)) ∙ same y ∙ kept_first y z zs tied in
        let one : y ≡ z = ap (λ l. get_or l zero y) heads in
        let rest : (t : X) → filter (ties lt t) ys ≡ filter (ties lt t) zs = λ t.
        same_rest (ties lt t y) y (filter (ties lt t) ys) (filter (ties lt t) zs)
        (subst (λ w. filter (ties lt t) (y ∷ ys) ≡ filter (ties lt t) (w ∷ zs)) (sym one) (same t)) in
        ap₂ (λ w l. w ∷ l) one (one_sort ys zs a.1 b.1 rest)
