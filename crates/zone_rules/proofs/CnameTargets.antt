-- Names that have records, and CNAMEs that lead from name to name.
use Rattle.std.proofs.Common.{ℕ, zero, suc, ◌≡◌, ◌+◌, ◌<◌, ◌≤◌, ◌⊎◌, inl, inr, Bool, true, false, cond, Option, Some, None, List, [], ◌∷◌, length, get_or, refl, sym, ap, ◌∙◌, arith}
use Rattle.std.specs.Prelude.{◌==◌, ◌&&◌, ◌||◌, not, nat_lt, slice_get}
use Rattle.std.specs.List.{AllWithin, find, list_any}
use Rattle.std.specs.Option.{option_map_or}
use Rattle.std.proofs.lemmas.Bool.{cases_lt, false≢true}
use Rattle.std.proofs.lemmas.Bool.Decides.{nat_tests}
use Rattle.std.proofs.lemmas.Option.{slice_get-get_or}
use Rattle.rdata_values.specs.Rtype as Rtype
use Rattle.zone_record.specs.declared.record.Record.{Record}
use Rattle.dns_wire.specs.Order.{same_name}
use Rattle.dns_wire.specs.Wire.{wire_length}
use Rattle.zone_rules.specs.Above.{is_within, names_above}
use Rattle.zone_rules.specs.Present.{is_delegated_in, is_renamed, yields_records}
use Rattle.zone_rules.specs.Rules.{alias_at, alias_target, lacks_records, names_nothing}
use Rattle.zone_rules.specs.Searches.{AreOwnedFrom}
use Rattle.zone_rules.specs.Zones.{has_owner, type_of}
use Rattle.zone_rules.specs.declared.refused.RrsetName.{RrsetName}
use Rattle.zone_rules.proofs.Neighbours.{found_shorter}
use Rattle.zone_rules.proofs.Subjects.{none_owned, one_more}

-- ---- names with records

less_is : (m n : ℕ) → m < n → nat_lt m n ≡ true
less_is m n h = grind (arith, nat_tests)

not_less_is : (m n : ℕ) → n ≤ m → nat_lt m n ≡ false
not_less_is m n h = grind (arith, nat_tests)

any_true : {X : Type 0} (p : X → Bool) (xs : List X) (k : ℕ) → option_map_or p (slice_get xs k) false ≡ true → list_any p xs ≡ true
any_true p [] k h = absurd (false≢true h)
any_true p (x ∷ xs) zero h = ap (λ b. b || list_any p xs) h
any_true p (x ∷ xs) (suc k) h = by (p x) (any_true p xs k h)
  where
    by : (b : Bool) → list_any p xs ≡ true → (b || list_any p xs) ≡ true
    by true e = refl
    by false e = e

-- a record is at a name if and only if the range of its records isn't empty
pub owner_is : {N O : Type 0} (name : List (List ℕ)) (records : List (Record N O)) (first past : ℕ) → AreOwnedFrom name records first past → nat_lt first past ≡ has_owner name records
owner_is name records first past owned = by (cases_lt first past)
  where
    at : {X : Type 0} (p : X → Bool) (xs : List X) (k : ℕ) → k < length xs → ((d : X) → p (get_or xs k d) ≡ true) → option_map_or p (slice_get xs k) false ≡ true
    at p [] k lt h = absurd (omega (arith, lt))
    at p (x ∷ xs) zero lt h = h x
    at p (x ∷ xs) (suc k) lt h = at p xs k (omega (arith, lt)) h

    by : (first < past) ⊎ (past ≤ first) → nat_lt first past ≡ has_owner name records
    by (inl less) =
        less_is first past less
        ∙ sym (any_true (λ r. same_name r.owner name) records first (at (λ r. same_name r.owner name) records first (omega (arith, less, owned.bound)) (λ d. owned.owned first d (omega arith) less)))
    by (inr more) =
        not_less_is first past more
        ∙ sym (none_owned (λ r. same_name r.owner name) name records first past owned (λ r h. h) (λ i d low lt. absurd (omega (arith, more, low, lt))))

-- the closest name that passes a test is the name itself if and only if it has its length
pub closest_itself : (test : List (List ℕ) → Bool) (name end : List (List ℕ)) → find test (name ∷ names_above name) ≡ Some end → (wire_length end == wire_length name) ≡ test name
closest_itself test name end h = by (test name) h
  where
    same_length : (m n : ℕ) → m ≡ n → (m == n) ≡ true
    same_length m n e = grind (arith, nat_tests)

    other_length : (m n : ℕ) → m < n → (m == n) ≡ false
    other_length m n e = grind (arith, nat_tests)

    by : (b : Bool) → cond b (Some name) (find test (names_above name)) ≡ Some end → (wire_length end == wire_length name) ≡ b
    by true e = let is : name ≡ end = cc in same_length (wire_length end) (wire_length name) (ap wire_length (sym is))
    by false e = other_length (wire_length end) (wire_length name) (found_shorter test name end e)

pub closest_none : (test : List (List ℕ) → Bool) (name : List (List ℕ)) → find test (name ∷ names_above name) ≡ None → false ≡ test name
closest_none test name h = by (test name) h
  where
    by : (b : Bool) → cond b (Some name) (find test (names_above name)) ≡ None → false ≡ b
    by true e = cc
    by false e = refl

-- ---- targets outside of the zone

off_step : (y r w d : Bool) → w ≡ false → (not y && (not r && (w && not d))) ≡ false
off_step true r w d h = refl
off_step false true w d h = refl
off_step false false w d h = ap (λ b. b && not d) h

-- a name that is not in the zone lacks no records
pub lacks_none : {N O M P : Type 0} (origin : List (List ℕ)) (records : List (Record N O)) (refused : List RrsetName) (r : Record M P) (name : List (List ℕ))
    → alias_target r ≡ Some name → is_within name origin ≡ false → false ≡ names_nothing origin records refused r
lacks_none origin records refused r name is off =
    sym (ap (λ o. option_map_or (lacks_records origin records refused) o false) is
    ∙ off_step (yields_records name records refused) (is_renamed name records refused) (is_within name origin) (is_delegated_in origin records refused name) off)

-- ---- the first CNAME at a name

module _ {X : Type 0} (p : X → Bool) where
  find_at : (xs : List X) (place : ℕ) → AllWithin (λ x. p x ≡ false) xs 0 place → option_map_or p (slice_get xs place) false ≡ true → find p xs ≡ slice_get xs place
  find_at [] place h k = absurd (false≢true k)
  find_at (x ∷ xs) zero h k = ap (λ b. cond b (Some x) (find p xs)) k
  find_at (x ∷ xs) (suc n) h k =
      ap (λ b. cond b (Some x) (find p xs)) (h 0 x (omega arith) (omega arith)) ∙ find_at xs n (λ i d low lt. h (suc i) d (omega arith) (omega arith)) k

  find_none : (xs : List X) → ((i : ℕ) (d : X) → i < length xs → p (get_or xs i d) ≡ false) → find p xs ≡ None
  find_none [] h = refl
  find_none (x ∷ xs) h = ap (λ b. cond b (Some x) (find p xs)) (h 0 x (omega arith)) ∙ find_none xs (λ i d lt. h (suc i) d (omega arith))

abbrev pub is_alias_record : {N O : Type 0} → Record N O → Bool
is_alias_record r = type_of r == Rtype.cname

module _ {N O : Type 0} (name : List (List ℕ)) (records : List (Record N O)) (first past : ℕ) (owned : AreOwnedFrom name records first past) where
  other_owner : (r : Record N O) → same_name r.owner name ≡ false → (same_name r.owner name && is_alias_record r) ≡ false
  other_owner r h = ap (λ b. b && is_alias_record r) h

  other_type : (r : Record N O) → is_alias_record r ≡ false → (same_name r.owner name && is_alias_record r) ≡ false
  other_type r h = ap (λ b. same_name r.owner name && b) h ∙ by (same_name r.owner name)
    where
      by : (b : Bool) → (b && false) ≡ false
      by true = refl
      by false = refl

  pub first_alias : (place : ℕ) → first ≤ place → place < past → AllWithin (λ r. is_alias_record r ≡ false) records first place → option_map_or is_alias_record (slice_get records place) false ≡ true
      → slice_get records place ≡ alias_at name records
  first_alias place low lt none h =
      sym (find_at (λ r. same_name r.owner name && is_alias_record r) records place before (at (slice_get records place) refl))
    where
      before : AllWithin (λ r. (same_name r.owner name && is_alias_record r) ≡ false) records 0 place
      before i d from less = by (cases_lt i first)
        where
          by : (i < first) ⊎ (first ≤ i) → (same_name (get_or records i d).owner name && is_alias_record (get_or records i d)) ≡ false
          by (inl k) = other_owner (get_or records i d) (owned.before i d (omega arith) k)
          by (inr k) = other_type (get_or records i d) (none i d k less)

      at : (o : Option (Record N O)) → slice_get records place ≡ o → option_map_or (λ r. same_name r.owner name && is_alias_record r) o false ≡ true
      at None e = absurd (false≢true (sym (ap (λ x. option_map_or is_alias_record x false) e) ∙ h))
      at (Some r) e =
          let is : get_or records place r ≡ r = some_is (sym (slice_get-get_or records place r (omega (arith, lt, owned.bound))) ∙ e) in
          let mine : same_name r.owner name ≡ true = ap (λ x. same_name x.owner name) (sym is) ∙ owned.owned place r low lt in
          ap (λ b. b && is_alias_record r) mine ∙ (sym (ap (λ x. option_map_or is_alias_record x false) e) ∙ h)
        where
          some_is : {X : Type 0} {x y : X} → Some x ≡ Some y → x ≡ y
          some_is f = cc

  pub no_alias : AllWithin (λ r. is_alias_record r ≡ false) records first past → None ≡ alias_at name records
  no_alias none = sym (find_none (λ r. same_name r.owner name && is_alias_record r) records (λ i d lt. from i d lt (cases_lt i first)))
    where
      later : (i : ℕ) (d : Record N O) → i < length records → first ≤ i → (i < past) ⊎ (past ≤ i) → (same_name (get_or records i d).owner name && is_alias_record (get_or records i d)) ≡ false
      later i d lt low (inl less) = other_type (get_or records i d) (none i d low less)
      later i d lt low (inr more) = other_owner (get_or records i d) (owned.after i d more lt)

      from : (i : ℕ) (d : Record N O) → i < length records → (i < first) ⊎ (first ≤ i) → (same_name (get_or records i d).owner name && is_alias_record (get_or records i d)) ≡ false
      from i d lt (inl less) = other_owner (get_or records i d) (owned.before i d (omega arith) less)
      from i d lt (inr low) = later i d lt low (cases_lt i past)

-- one record more that is not a CNAME
pub one_more_other : {N O : Type 0} (records : List (Record N O)) (first place : ℕ) → place < length records → AllWithin (λ r. is_alias_record r ≡ false) records first place
    → option_map_or is_alias_record (slice_get records place) false ≡ false → AllWithin (λ r. is_alias_record r ≡ false) records first (place + 1)
one_more_other records first place lt h e = one_more is_alias_record records first place lt h e
