-- The indexes of the items that pass a test, and the first and the last of these items.
use Rattle.std.proofs.Common.{ℕ, zero, suc, ◌≡◌, ◌+◌, ◌-◌, ◌<◌, ◌≤◌, Bool, true, false, cond, Option, Some, None, List, [], ◌∷◌, ◌++◌, length, take, drop, get_or, map, refl, sym, ap, ◌∙◌, arith, All}
use Rattle.std.specs.Prelude.{not, nat_le, nat_lt, option_and_then, reverse, slice_get, is_some}
use Rattle.std.specs.List.{AllWithin, find}
use Rattle.std.specs.List.Sorted.{IsNonDecreasing}
use Rattle.std.specs.Option.{option_map, option_map_or, option_or}
use Rattle.std.proofs.lemmas.Bool.{false≢true}
use Rattle.std.proofs.lemmas.Bool.Decides.{nat_tests}
use Rattle.std.proofs.lemmas.List.{get_or-map, length-map, length-take-le, reverse-append, take_all, take_more}
use Rattle.std.proofs.lemmas.List.Elements.{All-cons, All-head, All-nil, All-tail}
use Rattle.std.proofs.lemmas.List.Folds.{find-append}
use Rattle.std.proofs.lemmas.Option.{get_or_from_slice_get, slice_get-map}
use Rattle.zone_dnssec.specs.ChainLinks.{link_if, places_where}

-- ---- numbers

zero_le : (i : ℕ) → nat_le 0 i ≡ true
zero_le i = grind (arith, nat_tests)

suc_not_le : (k : ℕ) → nat_le (suc k) 0 ≡ false
suc_not_le k = grind (arith, nat_tests)

le_suc : (k i : ℕ) → nat_le (suc k) (suc i) ≡ nat_le k i
le_suc k i = grind (arith, nat_tests)

not_lt_zero : (i : ℕ) → nat_lt i 0 ≡ false
not_lt_zero i = grind (arith, nat_tests)

zero_lt : (k : ℕ) → nat_lt 0 (suc k) ≡ true
zero_lt k = grind (arith, nat_tests)

lt_suc : (i k : ℕ) → nat_lt (suc i) (suc k) ≡ nat_lt i k
lt_suc i k = grind (arith, nat_tests)

le_not : (k i : ℕ) → nat_le k i ≡ not (nat_lt i k)
le_not k i = grind (arith, nat_tests)

pub lt_is : (i k : ℕ) → i < k → nat_lt i k ≡ true
lt_is i k h = grind (arith, nat_tests)

pub not_lt_is : (i k : ℕ) → k ≤ i → nat_lt i k ≡ false
not_lt_is i k h = grind (arith, nat_tests)

-- ---- lists

map_append : {A B : Type 0} (f : A → B) (xs ys : List A) → map f (xs ++ ys) ≡ map f xs ++ map f ys
map_append f [] ys = refl
map_append f (x ∷ xs) ys = ap (λ l. f x ∷ l) (map_append f xs ys)

pub find_last : {X : Type 0} (t : X → Bool) (x : X) (xs : List X) → find t (reverse (x ∷ xs)) ≡ option_or (find t (reverse xs)) (cond (t x) (Some x) None)
find_last t x xs = ap (find t) (reverse-append (x ∷ []) xs) ∙ find-append t (reverse xs) (x ∷ [])

pub get_some : {X : Type 0} (xs : List X) (k : ℕ) → k < length xs → is_some (slice_get xs k) ≡ true
get_some [] k lt = absurd (omega (arith, lt))
get_some (x ∷ xs) zero lt = refl
get_some (x ∷ xs) (suc k) lt = get_some xs k (omega (arith, lt))

pub or_some : {X : Type 0} (o rest : Option X) → is_some o ≡ true → option_or o rest ≡ o
or_some None rest h = absurd (false≢true h)
or_some (Some x) rest h = refl

or_none : {X : Type 0} (o : Option X) → option_or o None ≡ o
or_none None = refl
or_none (Some x) = refl

shifted : {X : Type 0} (x : X) (xs : List X) (o : Option ℕ) → option_and_then (slice_get (x ∷ xs)) (option_map (λ i. suc i) o) ≡ option_and_then (slice_get xs) o
shifted x xs None = refl
shifted x xs (Some i) = refl

-- ---- indexes not below another, and below it

pub find_from_zero : (l : List ℕ) → find (λ i. nat_le 0 i) l ≡ slice_get l 0
find_from_zero [] = refl
find_from_zero (i ∷ l) = ap (λ b. cond b (Some i) (find (λ j. nat_le 0 j) l)) (zero_le i)

pub find_from_suc : (k : ℕ) (l : List ℕ) → find (λ i. nat_le (suc k) i) (map (λ i. suc i) l) ≡ option_map (λ i. suc i) (find (λ i. nat_le k i) l)
find_from_suc k [] = refl
find_from_suc k (i ∷ l) =
    ap (λ b. cond b (Some (suc i)) (find (λ j. nat_le (suc k) j) (map (λ j. suc j) l))) (le_suc k i)
    ∙ ap (λ o. cond (nat_le k i) (Some (suc i)) o) (find_from_suc k l) ∙ by (nat_le k i) (find (λ j. nat_le k j) l)
  where
    by : (b : Bool) (o : Option ℕ) → cond b (Some (suc i)) (option_map (λ j. suc j) o) ≡ option_map (λ j. suc j) (cond b (Some i) o)
    by true o = refl
    by false o = refl

none_below : (l : List ℕ) → find (λ i. nat_lt i 0) l ≡ None
none_below [] = refl
none_below (i ∷ l) = ap (λ b. cond b (Some i) (find (λ j. nat_lt j 0) l)) (not_lt_zero i) ∙ none_below l

find_below_suc : (k : ℕ) (l : List ℕ) → find (λ i. nat_lt i (suc k)) (reverse (map (λ i. suc i) l)) ≡ option_map (λ i. suc i) (find (λ i. nat_lt i k) (reverse l))
find_below_suc k [] = refl
find_below_suc k (i ∷ l) =
    find_last (λ j. nat_lt j (suc k)) (suc i) (map (λ j. suc j) l)
    ∙ ap (λ o. option_or o (cond (nat_lt (suc i) (suc k)) (Some (suc i)) None)) (find_below_suc k l)
    ∙ ap (λ b. option_or (option_map (λ j. suc j) (find (λ j. nat_lt j k) (reverse l))) (cond b (Some (suc i)) None)) (lt_suc i k)
    ∙ by (nat_lt i k) (find (λ j. nat_lt j k) (reverse l))
    ∙ sym (ap (option_map (λ j. suc j)) (find_last (λ j. nat_lt j k) i l))
  where
    by : (b : Bool) (o : Option ℕ) → option_or (option_map (λ j. suc j) o) (cond b (Some (suc i)) None) ≡ option_map (λ j. suc j) (option_or o (cond b (Some i) None))
    by true None = refl
    by true (Some j) = refl
    by false None = refl
    by false (Some j) = refl

-- among indexes, at the point up to which they are below another one
pub from_point : (k : ℕ) (l : List ℕ) (count : ℕ) → AllWithin (λ i. nat_lt i k ≡ true) l 0 count → AllWithin (λ i. nat_lt i k ≡ false) l count (length l)
    → find (λ i. nat_le k i) l ≡ slice_get l count
from_point k [] count h g = refl
from_point k (i ∷ l) zero h g = ap (λ b. cond b (Some i) (find (λ j. nat_le k j) l)) (le_not k i ∙ ap not (g 0 i (omega arith) (omega arith)))
from_point k (i ∷ l) (suc n) h g =
    ap (λ b. cond b (Some i) (find (λ j. nat_le k j) l)) (le_not k i ∙ ap not (h 0 i (omega arith) (omega arith)))
    ∙ from_point k l n (λ j d low lt. h (suc j) d (omega arith) (omega arith)) (λ j d low lt. g (suc j) d (omega arith) (omega arith))

none_of : (k : ℕ) (l : List ℕ) → AllWithin (λ i. nat_lt i k ≡ false) l 0 (length l) → find (λ i. nat_lt i k) (reverse l) ≡ None
none_of k [] g = refl
none_of k (i ∷ l) g =
    find_last (λ j. nat_lt j k) i l
    ∙ ap (λ o. option_or o (cond (nat_lt i k) (Some i) None)) (none_of k l (λ j d low lt. g (suc j) d (omega arith) (omega arith)))
    ∙ ap (λ b. cond b (Some i) None) (g 0 i (omega arith) (omega arith))

last_of : (k : ℕ) (l : List ℕ) (n : ℕ) → n < length l → AllWithin (λ i. nat_lt i k ≡ true) l 0 (suc n) → AllWithin (λ i. nat_lt i k ≡ false) l (suc n) (length l)
    → find (λ i. nat_lt i k) (reverse l) ≡ slice_get l n
last_of k [] n bound h g = absurd (omega (arith, bound))
last_of k (i ∷ l) zero bound h g =
    find_last (λ j. nat_lt j k) i l
    ∙ ap (λ o. option_or o (cond (nat_lt i k) (Some i) None)) (none_of k l (λ j d low lt. g (suc j) d (omega arith) (omega arith)))
    ∙ ap (λ b. cond b (Some i) None) (h 0 i (omega arith) (omega arith))
last_of k (i ∷ l) (suc n) bound h g =
    find_last (λ j. nat_lt j k) i l
    ∙ ap (λ o. option_or o (cond (nat_lt i k) (Some i) None))
    (last_of k l n (omega (arith, bound)) (λ j d low lt. h (suc j) d (omega arith) (omega (arith, lt))) (λ j d low lt. g (suc j) d (omega (arith, low)) (omega (arith, lt))))
    ∙ or_some (slice_get l n) (cond (nat_lt i k) (Some i) None) (get_some l n (omega (arith, bound)))

-- ---- bounds

suc_bound : (n : ℕ) (l : List ℕ) → All (λ i. i < n) l → All (λ i. i < suc n) (map (λ i. suc i) l)
suc_bound n [] h = All-nil (λ i. i < suc n)
suc_bound n (i ∷ l) h =
    All-cons (λ j. j < suc n) (suc i) (map (λ j. suc j) l) (omega (arith, All-head (λ j. j < n) i l h)) (suc_bound n l (All-tail (λ j. j < n) i l h))

found_bound : (f : ℕ → Bool) (n : ℕ) (l : List ℕ) → All (λ i. i < n) l → (i : ℕ) → find f (reverse l) ≡ Some i → i < n
found_bound f n [] h i e = cc
found_bound f n (j ∷ l) h i e = by (find f (reverse l)) refl (sym (find_last f j l) ∙ e) (λ r. found_bound f n l (All-tail (λ m. m < n) j l h) i r)
  where
    last : (b : Bool) → cond b (Some j) None ≡ Some i → i < n
    last true q = let is : j ≡ i = cc in omega (arith, All-head (λ m. m < n) j l h, is)
    last false q = cc

    by : (o : Option ℕ) → find f (reverse l) ≡ o → option_or o (cond (f j) (Some j) None) ≡ Some i → (find f (reverse l) ≡ Some i → i < n) → i < n
    by None r q g = last (f j) q
    by (Some m) r q g = g (r ∙ q)

module _ {X : Type 0} (p : X → Bool) where
  -- ---- one item more

  link_moved : (b : Bool) (n : ℕ) → map (λ i. suc i) (link_if b n) ≡ link_if b (suc n)
  link_moved true n = refl
  link_moved false n = refl

  places_snoc : (xs : List X) (x : X) → places_where p (xs ++ x ∷ []) ≡ places_where p xs ++ link_if (p x) (length xs)
  places_snoc [] x = refl
  places_snoc (y ∷ ys) x = by (p y) (places_snoc ys x)
    where
      moved : places_where p (ys ++ x ∷ []) ≡ places_where p ys ++ link_if (p x) (length ys)
          → map (λ i. suc i) (places_where p (ys ++ x ∷ [])) ≡ map (λ i. suc i) (places_where p ys) ++ link_if (p x) (suc (length ys))
      moved h =
          ap (map (λ i. suc i)) h ∙ map_append (λ i. suc i) (places_where p ys) (link_if (p x) (length ys))
          ∙ ap (λ l. map (λ i. suc i) (places_where p ys) ++ l) (link_moved (p x) (length ys))

      by : (b : Bool) → places_where p (ys ++ x ∷ []) ≡ places_where p ys ++ link_if (p x) (length ys)
          → cond b (0 ∷ map (λ i. suc i) (places_where p (ys ++ x ∷ []))) (map (λ i. suc i) (places_where p (ys ++ x ∷ [])))
          ≡ cond b (0 ∷ map (λ i. suc i) (places_where p ys)) (map (λ i. suc i) (places_where p ys)) ++ link_if (p x) (suc (length ys))
      by true h = ap (λ l. 0 ∷ l) (moved h)
      by false h = moved h

  pub places_more : (xs : List X) (i : ℕ) → i < length xs → places_where p (take (i + 1) xs) ≡ places_where p (take i xs) ++ link_if (option_map_or p (slice_get xs i) false) i
  places_more xs i lt = by (slice_get xs i) refl
    where
      by : (o : Option X) → slice_get xs i ≡ o → places_where p (take (i + 1) xs) ≡ places_where p (take i xs) ++ link_if (option_map_or p o false) i
      by None e = absurd (false≢true (ap is_some (sym e) ∙ get_some xs i lt))
      by (Some x) e =
          ap (places_where p) (take_more xs i x lt) ∙ places_snoc (take i xs) (get_or xs i x)
          ∙ ap (λ y. places_where p (take i xs) ++ link_if (p y) (length (take i xs))) (get_or_from_slice_get xs i x x e)
          ∙ ap (λ n. places_where p (take i xs) ++ link_if (p x) n) (length-take-le i xs (omega (arith, lt)))

  -- ---- the indexes rise, and are within the list

  pub places_rise : (xs : List X) → IsNonDecreasing (places_where p xs)
  places_rise [] = λ i j d le lt. absurd (omega (arith, lt))
  places_rise (x ∷ xs) = by (p x) (places_rise xs)
    where
      later : IsNonDecreasing (places_where p xs) → IsNonDecreasing (map (λ i. suc i) (places_where p xs))
      later h i j d le lt =
          let long = length-map (places_where p xs) (λ i. suc i) in
          let less : j < length (places_where p xs) = omega (arith, lt, long) in
          omega (
            arith,
            get_or-map (λ i. suc i) (places_where p xs) i 0 d (omega (arith, le, less)),
            get_or-map (λ i. suc i) (places_where p xs) j 0 d less,
            h i j 0 le less,
          )

      by : (b : Bool) → IsNonDecreasing (places_where p xs) → IsNonDecreasing (cond b (0 ∷ map (λ i. suc i) (places_where p xs)) (map (λ i. suc i) (places_where p xs)))
      by true h zero j d le lt = omega arith
      by true h (suc i) zero d le lt = absurd (omega (arith, le))
      by true h (suc i) (suc j) d le lt = later h i j d (omega (arith, le)) (omega (arith, lt))
      by false h i j d le lt = later h i j d le lt

  pub places_bound : (xs : List X) → All (λ i. i < length xs) (places_where p xs)
  places_bound [] = All-nil (λ i. i < 0)
  places_bound (x ∷ xs) = by (p x) (suc_bound (length xs) (places_where p xs) (places_bound xs))
    where
      by : (b : Bool) → All (λ i. i < suc (length xs)) (map (λ i. suc i) (places_where p xs)) → All (λ i. i < suc (length xs)) (cond b (0 ∷ map (λ i. suc i) (places_where p xs)) (map (λ i. suc i) (places_where p xs)))
      by true later = All-cons (λ i. i < suc (length xs)) 0 (map (λ i. suc i) (places_where p xs)) (omega arith) later
      by false later = later

  -- ---- the first item from an index on

  pub first_from : (xs : List X) (k : ℕ) → find p (drop k xs) ≡ option_and_then (slice_get xs) (find (λ i. nat_le k i) (places_where p xs))
  first_from [] zero = refl
  first_from [] (suc k) = refl
  first_from (x ∷ xs) zero = by (p x) (first_from xs zero) ∙ sym (ap (option_and_then (slice_get (x ∷ xs))) (find_from_zero (places_where p (x ∷ xs))))
    where
      later : find p xs ≡ option_and_then (slice_get xs) (find (λ i. nat_le 0 i) (places_where p xs))
          → find p xs ≡ option_and_then (slice_get (x ∷ xs)) (slice_get (map (λ i. suc i) (places_where p xs)) 0)
      later h =
          h ∙ ap (option_and_then (slice_get xs)) (find_from_zero (places_where p xs)) ∙ sym (shifted x xs (slice_get (places_where p xs) 0))
          ∙ sym (ap (option_and_then (slice_get (x ∷ xs))) (slice_get-map (λ i. suc i) (places_where p xs) 0))

      by : (b : Bool) → find p xs ≡ option_and_then (slice_get xs) (find (λ i. nat_le 0 i) (places_where p xs))
          → cond b (Some x) (find p xs) ≡ option_and_then (slice_get (x ∷ xs)) (slice_get (cond b (0 ∷ map (λ i. suc i) (places_where p xs)) (map (λ i. suc i) (places_where p xs))) 0)
      by true h = refl
      by false h = later h
  first_from (x ∷ xs) (suc k) = later (first_from xs k) ∙ by (p x)
    where
      later : find p (drop k xs) ≡ option_and_then (slice_get xs) (find (λ i. nat_le k i) (places_where p xs))
          → find p (drop k xs) ≡ option_and_then (slice_get (x ∷ xs)) (find (λ i. nat_le (suc k) i) (map (λ i. suc i) (places_where p xs)))
      later h =
          h ∙ sym (shifted x xs (find (λ i. nat_le k i) (places_where p xs)))
          ∙ sym (ap (option_and_then (slice_get (x ∷ xs))) (find_from_suc k (places_where p xs)))

      by : (b : Bool) → option_and_then (slice_get (x ∷ xs)) (find (λ i. nat_le (suc k) i) (map (λ i. suc i) (places_where p xs)))
          ≡ option_and_then (slice_get (x ∷ xs)) (find (λ i. nat_le (suc k) i) (cond b (0 ∷ map (λ i. suc i) (places_where p xs)) (map (λ i. suc i) (places_where p xs))))
      by true =
          ap (λ b. option_and_then (slice_get (x ∷ xs)) (cond b (Some 0) (find (λ i. nat_le (suc k) i) (map (λ i. suc i) (places_where p xs))))) (sym (suc_not_le k))
      by false = refl

  -- ---- the last item before an index

  last_before : (xs : List X) (k : ℕ) → find p (reverse (take k xs)) ≡ option_and_then (slice_get xs) (find (λ i. nat_lt i k) (reverse (places_where p xs)))
  last_before [] zero = refl
  last_before [] (suc k) = refl
  last_before (x ∷ xs) zero = sym (ap (option_and_then (slice_get (x ∷ xs))) (none_below (reverse (places_where p (x ∷ xs)))))
  last_before (x ∷ xs) (suc k) =
      find_last p x (take k xs) ∙ ap (λ o. option_or o (cond (p x) (Some x) None)) (last_before xs k) ∙ by (p x)
    where
      first_or : (o : Option ℕ) → find (λ i. nat_lt i k) (reverse (places_where p xs)) ≡ o → option_or (option_and_then (slice_get xs) o) (Some x) ≡ option_and_then (slice_get (x ∷ xs)) (option_or (option_map (λ i. suc i) o) (Some 0))
      first_or None e = refl
      first_or (Some i) e = or_some (slice_get xs i) (Some x) (get_some xs i (found_bound (λ j. nat_lt j k) (length xs) (places_where p xs) (places_bound xs) i e))

      by : (b : Bool) → option_or (option_and_then (slice_get xs) (find (λ i. nat_lt i k) (reverse (places_where p xs)))) (cond b (Some x) None)
          ≡ option_and_then (slice_get (x ∷ xs)) (find (λ i. nat_lt i (suc k)) (reverse (cond b (0 ∷ map (λ i. suc i) (places_where p xs)) (map (λ i. suc i) (places_where p xs)))))
      by true =
          first_or (find (λ i. nat_lt i k) (reverse (places_where p xs))) refl
          ∙ sym (ap (λ o. option_and_then (slice_get (x ∷ xs)) (option_or o (Some 0))) (find_below_suc k (places_where p xs)))
          ∙ ap (λ b. option_and_then (slice_get (x ∷ xs)) (option_or (find (λ i. nat_lt i (suc k)) (reverse (map (λ i. suc i) (places_where p xs)))) (cond b (Some 0) None))) (sym (zero_lt k))
          ∙ sym (ap (option_and_then (slice_get (x ∷ xs))) (find_last (λ i. nat_lt i (suc k)) 0 (map (λ i. suc i) (places_where p xs))))
      by false =
          or_none (option_and_then (slice_get xs) (find (λ i. nat_lt i k) (reverse (places_where p xs)))) ∙ sym (shifted x xs (find (λ i. nat_lt i k) (reverse (places_where p xs))))
          ∙ sym (ap (option_and_then (slice_get (x ∷ xs))) (find_below_suc k (places_where p xs)))

  -- ---- the same by the number of indexes that are below another

  module _ (xs : List X) (k count : ℕ) (below : AllWithin (λ i. nat_lt i k ≡ true) (places_where p xs) 0 count) (others : AllWithin (λ i. nat_lt i k ≡ false) (places_where p xs) count (length (places_where p xs))) where
    pub first_at : find p (drop k xs) ≡ option_and_then (slice_get xs) (slice_get (places_where p xs) count)
    first_at = first_from xs k ∙ ap (option_and_then (slice_get xs)) (from_point k (places_where p xs) count below others)

  pub last_at : (xs : List X) (k n : ℕ) → n < length (places_where p xs) → AllWithin (λ i. nat_lt i k ≡ true) (places_where p xs) 0 (suc n)
      → AllWithin (λ i. nat_lt i k ≡ false) (places_where p xs) (suc n) (length (places_where p xs)) → find p (reverse (take k xs)) ≡ option_and_then (slice_get xs) (slice_get (places_where p xs) n)
  last_at xs k n bound below others = last_before xs k ∙ ap (option_and_then (slice_get xs)) (last_of k (places_where p xs) n bound below others)

  pub last_none : (xs : List X) (k : ℕ) → AllWithin (λ i. nat_lt i k ≡ false) (places_where p xs) 0 (length (places_where p xs)) → find p (reverse (take k xs)) ≡ None
  last_none xs k others = last_before xs k ∙ ap (option_and_then (slice_get xs)) (none_of k (places_where p xs) others)

  -- ---- the first and the last of all items

  pub first_of_all : (xs : List X) → find p xs ≡ option_and_then (slice_get xs) (slice_get (places_where p xs) 0)
  first_of_all xs = first_from xs 0 ∙ ap (option_and_then (slice_get xs)) (find_from_zero (places_where p xs))

  all_below : (n : ℕ) (l : List ℕ) → All (λ i. i < n) l → AllWithin (λ i. nat_lt i n ≡ true) l 0 (length l)
  all_below n [] h j d low lt = absurd (omega (arith, lt))
  all_below n (i ∷ l) h zero d low lt = lt_is i n (All-head (λ m. m < n) i l h)
  all_below n (i ∷ l) h (suc j) d low lt = all_below n l (All-tail (λ m. m < n) i l h) j d (omega arith) (omega (arith, lt))

  pub last_of_all : (xs : List X) (n : ℕ) → length (places_where p xs) ≡ suc n → find p (reverse xs) ≡ option_and_then (slice_get xs) (slice_get (places_where p xs) n)
  last_of_all xs n e =
      ap (λ l. find p (reverse l)) (sym (take_all (length xs) xs (omega arith)))
      ∙ last_at xs (length xs) n (omega (arith, e)) (λ j d low lt. all_below (length xs) (places_where p xs) (places_bound xs) j d low (omega (arith, lt, e))) (λ j d low lt. absurd (omega (arith, low, lt, e)))

  pub none_at_all : (xs : List X) → length (places_where p xs) ≡ 0 → find p (reverse xs) ≡ None
  none_at_all xs e = ap (λ l. find p (reverse l)) (sym (take_all (length xs) xs (omega arith))) ∙ last_none xs (length xs) (λ j d low lt. absurd (omega (arith, lt, e)))
