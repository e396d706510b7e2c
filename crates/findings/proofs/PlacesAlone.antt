-- Where findings are numbered as they are found, sorting all of them by position sorts them by place alone.
use Rattle.std.proofs.Common.{◌≡◌, ◌⊎◌, inl, inr, ℕ, ◌+◌, ◌<◌, ◌==◌, Bool, true, false, cond, not, List, [], ◌∷◌, Option, Some, None, ◌-◌, ◌^◌, Contains, AllPairs, IsSortedBy, length, filter, get_or, is_lt, refl, sym, ap, subst, ◌∙◌, arith}
use Rattle.std.specs.Cmp.{IsStrictWeakOrder, IsTotalOrder}
use Rattle.std.specs.List.{All, AllByRecursion}
use Rattle.std.specs.List.Sorted.{ties}
use Rattle.std.specs.Ordering.{nat_cmp, ordering_reverse, ordering_then}
use Rattle.std.specs.declared.cmp.Ordering.{Ordering}
use Rattle.std.specs.declared.cmp.Ordering.TheVariants.{Less, Equal, Greater}
use Rattle.std.proofs.lemmas.Bool.{and_from, and_parts, both_ways, cases_Bool, cases_order, cond_both, false_from_ne_true, le-ltb, not-true, not_from_false}
use Rattle.std.proofs.lemmas.Cmp.{nat_cmp_total, ranked as number_ranked, tied_back, tied_itself}
use Rattle.std.proofs.lemmas.List.{get_or_default, get_or_read}
use Rattle.std.proofs.lemmas.List.Elements.{All-cons, All-from_recursion, All-head, All-nil, All-tail, Contains-append_right}
use Rattle.std.proofs.lemmas.List.Kept.{AllPairs-cons}
use Rattle.std.proofs.lemmas.List.Sorted.{All-permutation, IsPermutation-sym, IsPermutation-trans, ranks_by, ties_stay_sorted}
use Rattle.finding_codes.specs.declared.code.Severity.{Severity}
use Rattle.findings.specs.declared.collector.FoundFinding.{FoundFinding}
use Rattle.findings.specs.declared.finding_order.KeptFinding.{KeptFinding}
use Rattle.findings.specs.Collected.{counted_after, kept_finding, next_number, number_after}
use Rattle.findings.specs.FindingLaws.{AllAreByPlace, NumbersRise}
use Rattle.findings.specs.FindingOrder.{IsStableSort, place_order, position_order, severity_rank, weight_order}
use Rattle.findings.proofs.PlaceOrders.{places_total, positions_total, weights_total}
use Rattle.findings.proofs.StableSorts.{filter_all, permuted_all, placed_all, rising_all, sorted_if_rising}
use Rattle.findings.proofs.FindingLawSteps.{one_sorted}

seq_not_less : (p q : Ordering) → is_lt p ≡ false → (p ≡ Equal → is_lt q ≡ false) → is_lt (ordering_then p q) ≡ false
seq_not_less Less q h k = h
seq_not_less Equal q h k = k refl
seq_not_less Greater q h k = refl

second_equal : (p q : Ordering) → ordering_then p q ≡ Equal → q ≡ Equal
second_equal Less q h = absurd (let e : Less ≡ Equal = h in cc)
second_equal Equal q h = h
second_equal Greater q h = absurd (let e : Greater ≡ Equal = h in cc)

first_equal : (p q : Ordering) → ordering_then p q ≡ Equal → p ≡ Equal
first_equal Less q h = h
first_equal Equal q h = refl
first_equal Greater q h = h

not_apart : (p : Ordering) → is_lt p ≡ false → is_lt (ordering_reverse p) ≡ false → p ≡ Equal
not_apart Less h k = absurd (let e : true ≡ false = h in cc)
not_apart Equal h k = refl
not_apart Greater h k = absurd (let e : true ≡ false = k in cc)

same_number : (a b : ℕ) → nat_cmp a b ≡ Equal → a ≡ b
same_number a b h = number_ranked a b Equal (sym h)

no_less_number : (a b : ℕ) → a < b → is_lt (nat_cmp b a) ≡ false
no_less_number a b h =
    let last : (c : Bool) → is_lt (cond c Equal Greater) ≡ false = elim [ true ↦ refl | false ↦ refl ] in
    ap (λ c. is_lt (cond c Less (cond (b == a) Equal Greater))) (le-ltb b a (omega (arith, h))) ∙ last (b == a)

module _ {X : Type 0} (R : X → X → Ordering) (total : IsTotalOrder R) where
  abbrev less : X → X → Bool
  less a b = is_lt (R a b)

  equal_if_tied : (a b : X) → ties less a b ≡ true → R a b ≡ Equal
  equal_if_tied a b h =
      let parts = and_parts (not (less a b)) (not (less b a)) h in
      not_apart (R a b) (not-true (less a b) parts.0) (subst (λ o. is_lt o ≡ false) (total.antisymm b a) (not-true (less b a) parts.1))

  tied_if_equal : (a b : X) → R a b ≡ Equal → ties less a b ≡ true
  tied_if_equal a b e =
      and_from (not (less a b)) (not (less b a)) (not_from_false (less a b) (ap is_lt e))
      (not_from_false (less b a) (ap is_lt (total.antisymm b a ∙ ap ordering_reverse e)))

same_if : (a b : Bool) → (a ≡ true → b ≡ true) → (b ≡ true → a ≡ true) → a ≡ b
same_if true b there back = sym (there refl)
same_if false true there back = absurd (let e : false ≡ true = back refl in cc)
same_if false false there back = refl

-- ---- elements that a test keeps

kept_alike : {X : Type 0} (p q : X → Bool) (l : List X) → All (λ x. p x ≡ q x) l → filter p l ≡ filter q l
kept_alike p q [] h = refl
kept_alike p q (x ∷ xs) h =
    ap (λ b. cond b (x ∷ filter p xs) (filter p xs)) (All-head (λ y. p y ≡ q y) x xs h)
    ∙ ap (λ l. cond (q x) (x ∷ l) l) (kept_alike p q xs (All-tail (λ y. p y ≡ q y) x xs h))

none_kept : {X : Type 0} (p : X → Bool) (l : List X) → All (λ x. p x ≡ false) l → filter p l ≡ []
none_kept p [] h = refl
none_kept p (x ∷ xs) h =
    ap (λ b. cond b (x ∷ filter p xs) (filter p xs)) (All-head (λ y. p y ≡ false) x xs h) ∙ none_kept p xs (All-tail (λ y. p y ≡ false) x xs h)

-- a test keeps the same of what a wider test keeps
kept_twice : {X : Type 0} (p c : X → Bool) (l : List X) → ((x : X) → p x ≡ true → c x ≡ true) → filter p (filter c l) ≡ filter p l
kept_twice p c [] wider = refl
kept_twice p c (x ∷ xs) wider =
    let more = kept_twice p c xs wider in
    cond_both (c x) (x ∷ filter c xs) (filter c xs) (λ l. filter p l ≡ filter p (x ∷ xs))
    (λ _. ap (λ l. cond (p x) (x ∷ l) l) more)
    (λ not_wide. more ∙ sym (ap (λ b. cond b (x ∷ filter p xs) (filter p xs)) (false_from_ne_true (p x) (λ is. both_ways (c x) not_wide (wider x is)))))

one_or_none : {X : Type 0} (p : X → Bool) (l : List X) → All (λ x. p x ≡ false) l ⊎ ((x : X) × Contains l x × (p x ≡ true))
one_or_none p [] = inl (All-nil (λ x. p x ≡ false))
one_or_none {X} p (x ∷ xs) =
    let Has : List X → Type 0 = λ l. All (λ y. p y ≡ false) l ⊎ ((y : X) × Contains l y × (p y ≡ true)) in
    let rest : (p x ≡ false) → All (λ y. p y ≡ false) xs ⊎ ((y : X) × Contains xs y × (p y ≡ true)) → Has (x ∷ xs) = λ no.
    elim [ inl none ↦ inl (All-cons (λ y. p y ≡ false) x xs no none) | inr some ↦ inr (some.0, Contains-append_right (x ∷ []) xs some.0 some.1, some.2) ] in
    elim (cases_Bool (p x)) [ inl is ↦ inr (x, (0, omega arith, refl), is) | inr none ↦ rest none (one_or_none p xs) ]

-- ---- findings that are numbered as they are found

one_of_number : (found : List KeptFinding) (x y : KeptFinding) → AllPairs (λ a b. a.index < b.index) found → Contains found x → Contains found y → x.index ≡ y.index → x ≡ y
one_of_number found x y rise a b same =
    let at : (i j : ℕ) → i < j → j < length found → (get_or found i x).index < (get_or found j x).index = λ i j below inside. rise i j x below inside in
    let is_y : get_or found b.0 x ≡ y = sym (get_or_read found b.0 y b.1 (sym b.2) x) in
    elim (cases_order a.0 b.0) [
      | inl one ↦ sym a.2 ∙ ap (λ n. get_or found n x) one ∙ is_y
      | inr (inl before) ↦
          let lower : (get_or found a.0 x).index < (get_or found b.0 x).index = at a.0 b.0 before b.1 in
          let left : (get_or found a.0 x).index ≡ x.index = ap (λ (k : KeptFinding). k.index) a.2 in
          let right : (get_or found b.0 x).index ≡ y.index = ap (λ (k : KeptFinding). k.index) is_y in
          absurd (omega (arith, lower, left, right, same))
      | inr (inr after) ↦
          let lower : (get_or found b.0 x).index < (get_or found a.0 x).index = at b.0 a.0 after a.1 in
          let left : (get_or found a.0 x).index ≡ x.index = ap (λ (k : KeptFinding). k.index) a.2 in
          let right : (get_or found b.0 x).index ≡ y.index = ap (λ (k : KeptFinding). k.index) is_y in
          absurd (omega (arith, lower, left, right, same))
    ]

abbrev at_place : KeptFinding → KeptFinding → Bool
at_place a b = ties (λ x y. is_lt (place_order x y)) a b

abbrev at_position : KeptFinding → KeptFinding → Bool
at_position a b = ties (λ x y. is_lt (position_order x y)) a b

abbrev of_weight : KeptFinding → KeptFinding → Bool
of_weight a b = ties (λ x y. is_lt (weight_order x y)) a b

same_position : (a b : KeptFinding) → at_position a b ≡ true → position_order a b ≡ Equal
same_position a b h = equal_if_tied position_order positions_total a b h

same_index : (a b : KeptFinding) → position_order a b ≡ Equal → a.index ≡ b.index
same_index a b h = same_number a.index b.index (second_equal (place_order a b) (nat_cmp a.index b.index) h)

module _ (found : List KeptFinding) (rise : AllPairs (λ a b. a.index < b.index) found) where
  -- a finding at a position is the only one there
  only_one : (t x y : KeptFinding) → Contains found x → at_position t x ≡ true → Contains found y → at_position t y ≡ of_weight x y
  only_one t x y x_in x_at y_in =
      let tx : position_order t x ≡ Equal = same_position t x x_at in
      let there : at_position t y ≡ true → of_weight x y ≡ true = λ y_at.
      let ty : position_order t y ≡ Equal = same_position t y y_at in
      let one : x ≡ y = one_of_number found x y rise x_in y_in (sym (same_index t x tx) ∙ same_index t y ty) in
      subst (λ z. of_weight x z ≡ true) one (tied_if_equal weight_order weights_total x x (tied_itself weights_total x)) in
      let back : of_weight x y ≡ true → at_position t y ≡ true = λ tied.
      let xy : position_order x y ≡ Equal = second_equal (nat_cmp (severity_rank x.severity) (severity_rank y.severity)) (position_order x y) (equal_if_tied weight_order weights_total x y tied) in
      tied_if_equal position_order positions_total t y (positions_total.congr t x y tx ∙ xy) in
      same_if (at_position t y) (of_weight x y) there back

  all_of : (P : KeptFinding → Type 0) (l : List KeptFinding) → ((y : KeptFinding) → Contains l y → P y) → All P l
  all_of P l h k d inside = h (get_or l k d) (k, inside, get_or_default l k (get_or l k d) d inside)

  -- sorting by weight keeps the findings at one position
  position_kept : (ranked : List KeptFinding) → IsStableSort weight_order found ranked → (t : KeptFinding) → filter (at_position t) ranked ≡ filter (at_position t) found
  position_kept ranked h t =
      let P : KeptFinding → Bool = at_position t in
      let none : All (λ y. P y ≡ false) found → filter P ranked ≡ filter P found = λ no.
      none_kept P ranked (All-permutation (λ y. P y ≡ false) found ranked h.permutation no) ∙ sym (none_kept P found no) in
      let one : (x : KeptFinding) → Contains found x → P x ≡ true → filter P ranked ≡ filter P found = λ x x_in x_at.
      let Q : KeptFinding → Bool = of_weight x in
      let same : All (λ y. P y ≡ Q y) found = all_of (λ y. P y ≡ Q y) found (λ y y_in. only_one t x y x_in x_at y_in) in
      kept_alike P Q ranked (All-permutation (λ y. P y ≡ Q y) found ranked h.permutation same) ∙ h.stable x ∙ sym (kept_alike P Q found same) in
      elim (one_or_none P found) [ inl empty ↦ none empty | inr found_one ↦ one found_one.0 found_one.1 found_one.2 ]

  -- a stable sort by place is one by position
  by_position : (sorted : List KeptFinding) → IsStableSort place_order found sorted → (ranked : List KeptFinding) → IsStableSort weight_order found ranked → IsStableSort position_order ranked sorted
  by_position sorted h ranked k =
      let lower : KeptFinding → KeptFinding → Bool = λ a b. is_lt (nat_cmp a.index b.index) in
      let nearer : KeptFinding → KeptFinding → Bool = λ a b. is_lt (place_order a b) in
      let numbers : IsStrictWeakOrder lower = ranks_by nat_cmp_total (λ (f : KeptFinding). f.index) in
      let places : IsStrictWeakOrder nearer = ranks_by places_total (λ r. r) in
      let rising : IsSortedBy lower found = λ i d low inside. no_less_number (get_or found i d).index (get_or found (i + 1) d).index (rise i (i + 1) d (omega arith) inside) in
      let wider : (t y : KeptFinding) → at_position t y ≡ true → at_place t y ≡ true = λ t y tied.
      tied_if_equal place_order places_total t y (first_equal (place_order t y) (nat_cmp t.index y.index) (same_position t y tied)) in
      record {
        permutation = IsPermutation-trans ranked found sorted (IsPermutation-sym found ranked k.permutation) h.permutation;
        stable = λ t.
            sym (kept_twice (at_position t) (at_place t) sorted (wider t))
            ∙ ap (λ l. filter (at_position t) l) (h.stable t)
            ∙ kept_twice (at_position t) (at_place t) found (wider t)
            ∙ sym (position_kept ranked k t);
        in_order = λ i d low inside.
            let a : KeptFinding = get_or sorted i d in
            let b : KeptFinding = get_or sorted (i + 1) d in
            seq_not_less (place_order b a) (nat_cmp b.index a.index) (h.in_order i d low inside)
            (λ equal. ties_stay_sorted lower nearer numbers places found sorted rising h.stable i d inside (tied_if_equal place_order places_total a b (tied_back places_total b a equal)));
      }

pub all_are_by_place : AllAreByPlace
all_are_by_place found shown rise s =
    let nearer : KeptFinding → KeptFinding → Bool = λ a b. is_lt (place_order a b) in
    let places : IsStrictWeakOrder nearer = ranks_by places_total (λ r. r) in
    let sorted : List KeptFinding = placed_all nearer [] found in
    let sort : IsStableSort place_order found sorted = record {
      permutation = permuted_all nearer [] found;
      stable = λ t. filter_all nearer places t [] found tt;
      in_order = sorted_if_rising nearer sorted (rising_all nearer places [] found tt);
    } in
    subst (λ (l : List KeptFinding). IsStableSort place_order found l)
    (one_sorted position_order positions_total s.0 sorted shown (by_position found rise sorted sort s.0 s.1) s.2) sort

-- ---- the numbers of findings

numbers_under : (n : ℕ) (ss : List (Option Severity)) → number_after n ss < 2 ^ 64 - 1 → n < 2 ^ 64 - 1
numbers_under n [] h = h
numbers_under n (None ∷ ss) h = numbers_under n ss h
numbers_under n (Some s ∷ ss) h = let next = numbers_under (next_number n) ss h in omega (arith, next)

numbers_above : (m n : ℕ) (fs : List FoundFinding) (ss : List (Option Severity)) → m < n → number_after n ss < 2 ^ 64 - 1 → AllByRecursion (λ (k : KeptFinding). m < k.index) (counted_after n fs ss)
numbers_above m n [] ss low h = tt
numbers_above m n (f ∷ fs) [] low h = tt
numbers_above m n (f ∷ fs) (None ∷ ss) low h = numbers_above m n fs ss low h
numbers_above m n (f ∷ fs) (Some s ∷ ss) low h =
    let under : n < 2 ^ 64 - 1 = numbers_under n (Some s ∷ ss) h in
    (low, numbers_above m (next_number n) fs ss (omega (arith, low, under)) h)

numbers_after : (n : ℕ) (fs : List FoundFinding) (ss : List (Option Severity)) → number_after n ss < 2 ^ 64 - 1 → AllPairs (λ (a b : KeptFinding). a.index < b.index) (counted_after n fs ss)
numbers_after n [] ss h = λ i j d below inside. absurd (omega (arith, below, inside))
numbers_after n (f ∷ fs) [] h = λ i j d below inside. absurd (omega (arith, below, inside))
numbers_after n (f ∷ fs) (None ∷ ss) h = numbers_after n fs ss h
numbers_after n (f ∷ fs) (Some s ∷ ss) h =
    let under : n < 2 ^ 64 - 1 = numbers_under n (Some s ∷ ss) h in
    let rest : List KeptFinding = counted_after (next_number n) fs ss in
    AllPairs-cons (λ (a b : KeptFinding). a.index < b.index) (kept_finding n f s) rest
    (All-from_recursion (λ (k : KeptFinding). n < k.index) rest (numbers_above n (next_number n) fs ss (omega (arith, under)) h))
    (numbers_after (next_number n) fs ss h)

pub numbers_rise : NumbersRise
numbers_rise found severities h = numbers_after 0 found severities h
