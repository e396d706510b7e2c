-- Searches among the records of a name.
use Rattle.std.proofs.Common.{ℕ, zero, suc, ◌≡◌, ◌<◌, ◌≤◌, ◌⊎◌, inl, inr, Bool, true, false, cond, Option, Some, None, List, [], ◌∷◌, length, get_or, refl, sym, ap, ◌∙◌, arith}
use Rattle.std.specs.Prelude.{◌&&◌, ◌||◌, IfSome, is_some, option_and_then, slice_get}
use Rattle.std.specs.List.{AllWithin, find, list_any}
use Rattle.std.specs.Option.{option_map, option_map_or}
use Rattle.std.proofs.lemmas.Bool.{cases_lt, false≢true}
use Rattle.std.proofs.lemmas.Option.{get_or_from_slice_get}
use Rattle.dns_wire.specs.Order.{same_name}
use Rattle.zone_record.specs.declared.record.Record.{Record}
use Rattle.zone_rules.specs.Searches.{AreOwnedFrom}
use Rattle.zone_rules.specs.Zones.{as_listed}
use Rattle.zone_cuts.specs.OwnRecords.{has_passing, is_owned_passing, is_sought, passes_at, FindsPassing}
use Rattle.zone_cuts.specs.declared.owned.Sought.{Sought}
use Rattle.zone_cuts.specs.declared.owned.Sought.TheVariants.{Server, Equal, Key}

same_some : {X : Type 0} {x y : X} → Some x ≡ Some y → x ≡ y
same_some f = cc

-- ---- a record of a list, with its octets in other types

pub of_listed : {N O R S : Type 0} {A : Type 0} (f : Record R S → A) (g : Record N O → A) → ((r : Record N O) → f (as_listed r) ≡ g r) → (o : Option (Record N O)) (x : Record R S) (d : A)
    → Some x ≡ option_map as_listed o → f x ≡ option_map_or g o d
of_listed f g h None x d e = cc
of_listed f g h (Some r) x d e = let is : x ≡ as_listed r = same_some e in ap f is ∙ h r

listed_sought : {N O : Type 0} (R S : Type 0) (sought : Sought) (r : Record N O) → is_sought {N = R} {O = S} sought (as_listed r) ≡ is_sought sought r
listed_sought R S (Server host) r = refl
listed_sought R S (Equal rtype octets) r = refl
listed_sought R S (Key owner ds) r = refl

pub sought_in : {N O R S : Type 0} (sought : Sought) (o : Option (Record N O)) (x : Record R S) → Some x ≡ option_map as_listed o → is_sought sought x ≡ option_map_or (is_sought sought) o false
sought_in sought o x e = of_listed (is_sought sought) (is_sought sought) (listed_sought _ _ sought) o x false e

-- ---- the first item that passes a test

module _ {X : Type 0} (p : X → Bool) where
  find_first : (xs : List X) (place : ℕ) → AllWithin (λ x. p x ≡ false) xs 0 place → option_map_or p (slice_get xs place) false ≡ true → find p xs ≡ slice_get xs place
  find_first [] place h k = absurd (false≢true k)
  find_first (x ∷ xs) zero h k = ap (λ b. cond b (Some x) (find p xs)) k
  find_first (x ∷ xs) (suc n) h k =
      ap (λ b. cond b (Some x) (find p xs)) (h 0 x (omega arith) (omega arith)) ∙ find_first xs n (λ i d low lt. h (suc i) d (omega arith) (omega arith)) k

  find_nothing : (xs : List X) → ((i : ℕ) (d : X) → i < length xs → p (get_or xs i d) ≡ false) → find p xs ≡ None
  find_nothing [] h = refl
  find_nothing (x ∷ xs) h = ap (λ b. cond b (Some x) (find p xs)) (h 0 x (omega arith)) ∙ find_nothing xs (λ i d lt. h (suc i) d (omega arith))

  pub any_is_found : (xs : List X) → is_some (find p xs) ≡ list_any p xs
  any_is_found [] = refl
  any_is_found (x ∷ xs) = by (p x) (any_is_found xs)
    where
      by : (b : Bool) → is_some (find p xs) ≡ list_any p xs → is_some (cond b (Some x) (find p xs)) ≡ (b || list_any p xs)
      by true h = refl
      by false h = h

pub get_within : {X : Type 0} (xs : List X) (i : ℕ) → i < length xs → is_some (slice_get xs i) ≡ true
get_within [] i lt = absurd (omega (arith, lt))
get_within (x ∷ xs) zero lt = refl
get_within (x ∷ xs) (suc i) lt = get_within xs i (omega (arith, lt))

-- ---- records of a name

module _ {N O : Type 0} (test : Record N O → Bool) (name : List (List ℕ)) (records : List (Record N O)) (first past : ℕ) (owned : AreOwnedFrom name records first past) where
  other_owner : (r : Record N O) → same_name r.owner name ≡ false → is_owned_passing test name r ≡ false
  other_owner r h = ap (λ b. b && test r) h

  other_kind : (r : Record N O) → test r ≡ false → is_owned_passing test name r ≡ false
  other_kind r h = ap (λ b. same_name r.owner name && b) h ∙ by (same_name r.owner name)
    where
      by : (b : Bool) → (b && false) ≡ false
      by true = refl
      by false = refl

  found_first : (place : ℕ) → first ≤ place → place < past → AllWithin (λ r. test r ≡ false) records first place → option_map_or test (slice_get records place) false ≡ true
      → slice_get records place ≡ find (is_owned_passing test name) records
  found_first place low lt none h = sym (find_first (is_owned_passing test name) records place before (at (slice_get records place) refl))
    where
      before : AllWithin (λ r. is_owned_passing test name r ≡ false) records 0 place
      before i d from less = by (cases_lt i first)
        where
          by : (i < first) ⊎ (first ≤ i) → is_owned_passing test name (get_or records i d) ≡ false
          by (inl k) = other_owner (get_or records i d) (owned.before i d (omega arith) k)
          by (inr k) = other_kind (get_or records i d) (none i d k less)

      at : (o : Option (Record N O)) → slice_get records place ≡ o → option_map_or (is_owned_passing test name) o false ≡ true
      at None e = absurd (false≢true (sym (ap (λ x. option_map_or test x false) e) ∙ h))
      at (Some r) e =
          let is : get_or records place r ≡ r = get_or_from_slice_get records place r r e in
          let mine : same_name r.owner name ≡ true = ap (λ x. same_name x.owner name) (sym is) ∙ owned.owned place r low lt in
          ap (λ b. b && test r) mine ∙ (sym (ap (λ x. option_map_or test x false) e) ∙ h)

  found_none : AllWithin (λ r. test r ≡ false) records first past → None ≡ find (is_owned_passing test name) records
  found_none none = sym (find_nothing (is_owned_passing test name) records (λ i d lt. from i d lt (cases_lt i first)))
    where
      later : (i : ℕ) (d : Record N O) → i < length records → first ≤ i → (i < past) ⊎ (past ≤ i) → is_owned_passing test name (get_or records i d) ≡ false
      later i d lt low (inl less) = other_kind (get_or records i d) (none i d low less)
      later i d lt low (inr more) = other_owner (get_or records i d) (owned.after i d more lt)

      from : (i : ℕ) (d : Record N O) → i < length records → (i < first) ⊎ (first ≤ i) → is_owned_passing test name (get_or records i d) ≡ false
      from i d lt (inl less) = other_owner (get_or records i d) (owned.before i d (omega arith) less)
      from i d lt (inr low) = later i d lt low (cases_lt i past)

  pub find_is : (o : Option ℕ) → FindsPassing test records first past o → option_and_then (slice_get records) o ≡ find (is_owned_passing test name) records
  find_is None h = found_none h
  find_is (Some place) h = found_first place h.0 h.1 h.2 h.3

  pub find_bound : (o : Option ℕ) → FindsPassing test records first past o → IfSome o (λ place. place < length records)
  find_bound None h = tt
  find_bound (Some place) h = omega (arith, h.1, owned.bound)

  some_found : (o : Option ℕ) → FindsPassing test records first past o → is_some o ≡ is_some (option_and_then (slice_get records) o)
  some_found None h = refl
  some_found (Some place) h = sym (get_within records place (omega (arith, h.1, owned.bound)))

  pub has_is : (o : Option ℕ) → FindsPassing test records first past o → is_some o ≡ has_passing test name records
  has_is o h = some_found o h ∙ ap is_some (find_is o h) ∙ any_is_found (is_owned_passing test name) records
