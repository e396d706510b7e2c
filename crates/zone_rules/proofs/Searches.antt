-- Searches among sorted owners.
use Rattle.std.proofs.Common.{ℕ, zero, suc, ◌≡◌, ◌+◌, ◌<◌, ◌≤◌, Bool, true, false, List, [], ◌∷◌, length, get_or, refl, sym, ap, ◌∙◌, arith}
use Rattle.std.specs.Prelude.{nat_le, ◌==◌, ◌&&◌, ◌||◌, slice_get}
use Rattle.std.specs.List.{AllAdjacentBelow, AllWithin, list_any}
use Rattle.std.specs.List.Sorted.{IsNonDecreasingBy, IsPartitionedBy, IsPartitionPoint}
use Rattle.std.specs.Option.{option_map_or}
use Rattle.std.specs.Ordering.{is_eq, is_lt, is_le, nat_cmp, ordering_index, ordering_reverse, ordering_then}
use Rattle.std.specs.declared.cmp.Ordering.{Ordering}
use Rattle.std.specs.declared.cmp.Ordering.TheVariants.{Less, Equal, Greater}
use Rattle.std.specs.Cmp.{IsTotalOrder}
use Rattle.std.proofs.lemmas.Bool.{false≢true}
use Rattle.std.proofs.lemmas.Bool.Decides.{nat_tests}
use Rattle.std.proofs.lemmas.Cmp.{nat_cmp_total, on_total, then_total}
use Rattle.std.proofs.lemmas.List.Sorted.{searchable_from_sorted, IsPartitionedBy-leb}
use Rattle.dns_wire.specs.Order.{same_name}
use Rattle.zone_record.specs.Names.{name_order}
use Rattle.zone_record.proofs.Orders.{names_total}
use Rattle.zone_record.proofs.OrderTests.{is_tied, less_not_tied, tied_le}
use Rattle.zone_rules.specs.Present.{set_order}
use Rattle.zone_rules.specs.declared.refused.RrsetName.{RrsetName}
use Rattle.zone_rules.proofs.Lookups.{same_is}

-- ---- the first of those that pass a test

module _ {X : Type 0} (p : X → Bool) where
  pub none_passes : (xs : List X) → ((i : ℕ) (d : X) → i < length xs → p (get_or xs i d) ≡ false) → list_any p xs ≡ false
  none_passes [] h = refl
  none_passes (x ∷ xs) h = ap (λ b. b || list_any p xs) (h 0 x (omega arith)) ∙ none_passes xs (λ i d lt. h (suc i) d (omega arith))

  -- any element passes if and only if the first one that does not come before it does
  pub any_at : (xs : List X) (place : ℕ) → AllWithin (λ x. p x ≡ false) xs 0 place → ((i : ℕ) (d : X) → place ≤ i → i < length xs → p (get_or xs i d) ≡ true → p (get_or xs place d) ≡ true)
      → list_any p xs ≡ option_map_or p (slice_get xs place) false
  any_at [] place h k = refl
  any_at (x ∷ xs) zero h k = by (p x) refl
    where
      decided : (b : Bool) → (b ≡ true → p x ≡ true) → p x ≡ false → b ≡ false
      decided true f e = absurd (false≢true (sym e ∙ f refl))
      decided false f e = refl

      by : (b : Bool) → p x ≡ b → (b || list_any p xs) ≡ b
      by true e = refl
      by false e = none_passes xs (λ i d lt. decided (p (get_or xs i d)) (k (suc i) d (omega arith) (omega arith)) e)
  any_at (x ∷ xs) (suc n) h k =
      ap (λ b. b || list_any p xs) (h 0 x (omega arith) (omega arith))
      ∙ any_at xs n (λ i d low lt. h (suc i) d (omega arith) (omega arith)) (λ i d low lt. k (suc i) d (omega arith) (omega arith))

-- ---- orders

pub lt_index : (o : Ordering) → nat_le (ordering_index o) 0 ≡ is_lt o
lt_index Less = refl
lt_index Equal = refl
lt_index Greater = refl

pub le_index : (o : Ordering) → nat_le (ordering_index o) 1 ≡ is_le o
le_index Less = refl
le_index Equal = refl
le_index Greater = refl

pub back_not : (o back : Ordering) → back ≡ ordering_reverse o → is_le o ≡ true → is_lt back ≡ false
back_not Less back e h = ap is_lt e
back_not Equal back e h = ap is_lt e
back_not Greater back e h = cc

number_tied : (m n : ℕ) → (m == n) ≡ is_eq (nat_cmp m n)
number_tied m n = grind (arith, nat_tests)

then_tied : (o p : Ordering) → is_eq (ordering_then o p) ≡ (is_eq o && is_eq p)
then_tied Less p = refl
then_tied Equal p = refl
then_tied Greater p = refl

sets_total : IsTotalOrder set_order
sets_total = then_total (on_total (λ s. s.owner) names_total) (on_total (λ s. s.rtype) nat_cmp_total)

-- ---- by owner and type

module _ {X : Type 0} (set_of : X → RrsetName) (name : List (List ℕ)) (rtype : ℕ) where
  abbrev pub wanted : RrsetName
  wanted = record { owner = name; rtype = rtype }

  abbrev pub is_wanted : X → Bool
  is_wanted x = same_name (set_of x).owner name && (set_of x).rtype == rtype

  pub wanted_is : (x : X) → is_wanted x ≡ is_eq (set_order (set_of x) wanted)
  wanted_is x =
      (λ i. same_is (set_of x).owner name i && number_tied (set_of x).rtype rtype i) ∙ sym (then_tied (name_order (set_of x).owner name) (nat_cmp (set_of x).rtype rtype))

  sets_rise : (xs : List X) → AllAdjacentBelow (λ a b. is_le (set_order (set_of a) (set_of b)) ≡ true) xs (length xs) → IsNonDecreasingBy (λ x. ordering_index (set_order (set_of x) wanted)) xs
  sets_rise xs h =
      searchable_from_sorted sets_total set_of xs wanted
      (λ k d low lt. back_not (set_order (set_of (get_or xs k d)) (set_of (get_or xs (k + 1) d))) _ (sets_total.antisymm (set_of (get_or xs (k + 1) d)) (set_of (get_or xs k d))) (h k d lt))

  pub sets_parted : (xs : List X) → AllAdjacentBelow (λ a b. is_le (set_order (set_of a) (set_of b)) ≡ true) xs (length xs) → IsPartitionedBy (λ x. is_lt (set_order (set_of x) wanted)) xs
  sets_parted xs h i j d le lt t =
      sym (lt_index (set_order (set_of (get_or xs i d)) wanted))
      ∙ IsPartitionedBy-leb (λ x. ordering_index (set_order (set_of x) wanted)) xs 0 (sets_rise xs h) i j d le lt (lt_index (set_order (set_of (get_or xs j d)) wanted) ∙ t)

  upto_wanted : (xs : List X) → AllAdjacentBelow (λ a b. is_le (set_order (set_of a) (set_of b)) ≡ true) xs (length xs) → IsPartitionedBy (λ x. is_le (set_order (set_of x) wanted)) xs
  upto_wanted xs h i j d le lt t =
      sym (le_index (set_order (set_of (get_or xs i d)) wanted))
      ∙ IsPartitionedBy-leb (λ x. ordering_index (set_order (set_of x) wanted)) xs 1 (sets_rise xs h) i j d le lt (le_index (set_order (set_of (get_or xs j d)) wanted) ∙ t)

  pub set_found : (xs : List X) (place : ℕ) → AllAdjacentBelow (λ a b. is_le (set_order (set_of a) (set_of b)) ≡ true) xs (length xs)
      → IsPartitionPoint (λ x. is_lt (set_order (set_of x) wanted) ≡ true) (λ x. is_lt (set_order (set_of x) wanted) ≡ false) xs place
      → list_any is_wanted xs ≡ option_map_or is_wanted (slice_get xs place) false
  set_found xs place h point =
      any_at is_wanted xs place
      (λ i d low lt. wanted_is (get_or xs i d) ∙ less_not_tied (set_order (set_of (get_or xs i d)) wanted) (point.0 i d low lt))
      (λ i d low lt t.
      wanted_is (get_or xs place d)
      ∙ is_tied (set_order (set_of (get_or xs place d)) wanted) (point.1 place d (omega arith) (omega (arith, low, lt)))
      (upto_wanted xs h place i d low lt (tied_le (set_order (set_of (get_or xs i d)) wanted) (sym (wanted_is (get_or xs i d)) ∙ t))))

-- ---- by owner alone

first_rest : (o : Ordering) (n : ℕ) → is_lt (ordering_then o (nat_cmp n 0)) ≡ is_lt o
first_rest Less n = refl
first_rest Equal n = none_less n
  where
    none_less : (n : ℕ) → is_lt (nat_cmp n 0) ≡ false
    none_less n = grind (arith, nat_tests)
first_rest Greater n = refl

-- the RRsets before the first one of a name are those of names before it
pub before_first : (set : RrsetName) (name : List (List ℕ)) → is_lt (set_order set (record { owner = name; rtype = 0 })) ≡ is_lt (name_order set.owner name)
before_first set name = first_rest (name_order set.owner name) set.rtype

pub first_parted : {X : Type 0} (set_of : X → RrsetName) (name : List (List ℕ)) (xs : List X) → IsPartitionedBy (λ x. is_lt (name_order (set_of x).owner name)) xs
    → IsPartitionedBy (λ x. is_lt (set_order (set_of x) (record { owner = name; rtype = 0 }))) xs
first_parted set_of name xs h i j d le lt t =
    before_first (set_of (get_or xs i d)) name ∙ h i j d le lt (sym (before_first (set_of (get_or xs j d)) name) ∙ t)

pub first_point : {X : Type 0} (set_of : X → RrsetName) (name : List (List ℕ)) (xs : List X) (place : ℕ)
    → IsPartitionPoint (λ x. is_lt (set_order (set_of x) (record { owner = name; rtype = 0 })) ≡ true) (λ x. is_lt (set_order (set_of x) (record { owner = name; rtype = 0 })) ≡ false) xs place
    → IsPartitionPoint (λ x. is_lt (name_order (set_of x).owner name) ≡ true) (λ x. is_lt (name_order (set_of x).owner name) ≡ false) xs place
first_point set_of name xs place h = (
  λ i d low lt. sym (before_first (set_of (get_or xs i d)) name) ∙ h.0 i d low lt,
  λ i d low lt. sym (before_first (set_of (get_or xs i d)) name) ∙ h.1 i d low lt,
)
