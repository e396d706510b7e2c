-- The records of a zone in the order of their owners, and searches among them.
use Rattle.std.proofs.Common.{ℕ, zero, suc, ◌≡◌, ◌+◌, ◌-◌, ◌<◌, ◌≤◌, Bool, true, false, List, [], ◌∷◌, length, take, drop, get_or, map, refl, sym, ap, ◌∙◌, arith}
use Rattle.std.specs.Prelude.{All, Some, ◌==◌, ◌&&◌, ◌||◌, slice_get}
use Rattle.std.specs.List.{AllAdjacentBelow, AllWithin, list_any}
use Rattle.std.specs.List.Sorted.{IsPartitionPoint, IsSorted}
use Rattle.std.specs.Option.{option_map}
use Rattle.std.specs.Ordering.{is_eq, is_le, is_lt, nat_cmp, ordering_reverse, ordering_then}
use Rattle.std.specs.declared.cmp.Ordering.{Ordering}
use Rattle.std.specs.declared.cmp.Ordering.TheVariants.{Less, Equal, Greater}
use Rattle.std.proofs.lemmas.Bool.{false≢true}
use Rattle.std.proofs.lemmas.Bool.Decides.{nat_tests}
use Rattle.std.proofs.lemmas.Cmp.{nat_list_cmp_total, tied_itself}
use Rattle.std.proofs.lemmas.List.{drop-map, get_or-drop, get_or-map, get_or-take, get_or_default, length-drop, length-map, length-take-le, take-map}
use Rattle.std.proofs.lemmas.List.Elements.{All-get_or, All-head, All-tail}
use Rattle.std.proofs.lemmas.Option.{slice_get-get_or, slice_get-map}
use Rattle.zone_record.specs.Names.{name_order, octet_order}
use Rattle.zone_record.proofs.Orders.{octets_equal}
use Rattle.zone_record.specs.declared.record.Record.{Record}
use Rattle.dns_wire.specs.Order.{same_name}
use Rattle.zone_contents.specs.Contents.{listed_record, listing, IsZoneRecord}
use Rattle.zone_contents.specs.Keys.{key_in_zone}
use Rattle.zone_contents.specs.Searches.{has_type_within, EndsKey}
use Rattle.zone_contents.proofs.ZoneNames.{key_is_order, keys_are_order}
use Rattle.zone_rules.specs.Searches.{AreOwnedFrom}
use Rattle.zone_rules.specs.Zones.{has_type_at, type_of}
use Rattle.zone_rules.proofs.Lookups.{any_in_filter, filter_behind, filter_front, same_is}
use Rattle.zone_rules.proofs.Searches.{none_passes}
use Rattle.zone_store.specs.Stored.{AddedRecord, absent_parts, added_record, has_stored_rrset, order_to_rrset, record_at, stored_order, CountsBeforeKey}
use Rattle.zone_store.proofs.EntrySearches.{greater_last, keys_coarser, keys_total}

abbrev none : AddedRecord
none = added_record [] absent_parts

first_not : (o rest : Ordering) → is_lt (ordering_then o rest) ≡ false → is_lt o ≡ false
first_not Less rest h = h
first_not Equal rest h = refl
first_not Greater rest h = refl

pub not_back : (o : Ordering) → is_lt o ≡ false → is_le (ordering_reverse o) ≡ true
not_back Less h = absurd (false≢true (sym h))
not_back Equal h = refl
not_back Greater h = refl

less_not : (o : Ordering) → is_lt o ≡ true → is_eq o ≡ false
less_not Less h = refl
less_not Equal h = absurd (false≢true h)
less_not Greater h = refl

after_not : (o : Ordering) → is_le o ≡ false → is_eq o ≡ false
after_not Less h = refl
after_not Equal h = h
after_not Greater h = refl

-- ---- one record

module _ (apex : List (List ℕ)) (records : List AddedRecord) where
  pub listed_at : (i : ℕ) (d : Record (Unit {0}) (Unit {0})) → i < length records → get_or (listing apex records) i d ≡ listed_record apex (record_at records i)
  listed_at i d lt = get_or-map (listed_record apex) records i none d lt

  pub listed_length : length (listing apex records) ≡ length records
  listed_length = length-map records (listed_record apex)

  pub listed_get : (i : ℕ) → i < length records → slice_get (listing apex records) i ≡ Some (listed_record apex (record_at records i))
  listed_get i lt = slice_get-map (listed_record apex) records i ∙ ap (option_map (listed_record apex)) (slice_get-get_or records i none lt)

  module _ (are : All (IsZoneRecord apex) records) where
    pub valid_at : (i : ℕ) → i < length records → IsZoneRecord apex (record_at records i)
    valid_at i lt = All-get_or (IsZoneRecord apex) records i none lt are

    owner_order : (name : List (List ℕ)) (i : ℕ) (d : Record (Unit {0}) (Unit {0})) → i < length records → name_order (get_or (listing apex records) i d).owner name ≡ octet_order (record_at records i).key (key_in_zone apex name)
    owner_order name i d lt = ap (λ r. name_order r.owner name) (listed_at i d lt) ∙ sym (key_is_order apex (record_at records i).key (valid_at i lt).owner name)

    pub count_is : (name : List (List ℕ)) (count : ℕ) → count ≤ length records → CountsBeforeKey (key_in_zone apex name) records count
        → IsPartitionPoint (λ r. is_lt (name_order r.owner name) ≡ true) (λ r. is_lt (name_order r.owner name) ≡ false) (listing apex records) count
    count_is name count bound h = (
      λ i d low lt. ap is_lt (owner_order name i d (omega (arith, lt, bound))) ∙ h.0 i none low lt,
      λ i d low lt. ap is_lt (owner_order name i d (omega (arith, lt, listed_length))) ∙ h.1 i none low (omega (arith, lt, listed_length)),
    )

    pub owners_in_order : IsSorted stored_order records → AllAdjacentBelow (λ a b. is_le (name_order a.owner b.owner) ≡ true) (listing apex records) (length (listing apex records))
    owners_in_order sorted k d lt =
        let next : k + 1 < length records = omega (arith, lt, listed_length) in
        let here : k < length records = omega (arith, next) in
        let a = record_at records k in
        let b = record_at records (k + 1) in
        (λ i. is_le (name_order (listed_at k d here i).owner (listed_at (k + 1) d next i).owner))
        ∙ ap is_le (sym (keys_are_order apex a.key b.key (valid_at k here).owner (valid_at (k + 1) next).owner) ∙ nat_list_cmp_total.antisymm a.key b.key)
        ∙ not_back (octet_order b.key a.key) (first_not (octet_order b.key a.key) _ (sorted k none (omega arith) next))

    -- ---- the records of a name

    module _ (sorted : IsSorted stored_order records) (name : List (List ℕ)) (first past : ℕ) (point : CountsBeforeKey (key_in_zone apex name) records first) (ends : EndsKey (key_in_zone apex name) records first past) where
      abbrev key : List ℕ
      key = key_in_zone apex name

      owned_is : (i : ℕ) (d : Record (Unit {0}) (Unit {0})) → i < length records → same_name (get_or (listing apex records) i d).owner name ≡ is_eq (octet_order (record_at records i).key key)
      owned_is i d lt = same_is (get_or (listing apex records) i d).owner name ∙ ap is_eq (owner_order name i d lt)

      past_key : past < length records → is_le (octet_order (record_at records past).key key) ≡ false
      past_key lt = by (octet_order (record_at records past).key key) refl
        where
          by : (o : Ordering) → octet_order (record_at records past).key key ≡ o → is_le o ≡ false
          by Less e = absurd (false≢true (sym (point.1 past none ends.from lt) ∙ ap is_lt e))
          by Equal e = absurd (ends.ends lt (octets_equal (record_at records past).key key e))
          by Greater e = refl

      later : (i : ℕ) → past ≤ i → i < length records → is_le (octet_order (record_at records i).key key) ≡ false
      later i low lt = by (is_le (octet_order (record_at records i).key key)) refl
        where
          by : (b : Bool) → is_le (octet_order (record_at records i).key key) ≡ b → b ≡ false
          by true e =
              sym (greater_last keys_total keys_coarser (added_record key absent_parts) records sorted past i none low lt e) ∙ past_key (omega (arith, low, lt))
          by false e = refl

      pub owned_from : AreOwnedFrom name (listing apex records) first past
      owned_from = record {
        parts = count_is name first (omega (arith, ends.from, ends.bound)) point;
        bound = omega (arith, ends.bound, listed_length);
        before = λ i d low lt. owned_is i d (omega (arith, lt, ends.from, ends.bound)) ∙ less_not (octet_order (record_at records i).key key) (point.0 i none low lt);
        owned = λ i d low lt. owned_is i d (omega (arith, lt, ends.bound)) ∙ ap (λ k. is_eq (octet_order k key)) (ends.same i none low lt) ∙ ap is_eq (tied_itself nat_list_cmp_total key);
        after = λ i d low lt.
            owned_is i d (omega (arith, lt, listed_length)) ∙ after_not (octet_order (record_at records i).key key) (later i low (omega (arith, lt, listed_length)));
      }

-- ---- the types of a name

any_map : {X Y : Type 0} (p : Y → Bool) (f : X → Y) (xs : List X) → list_any p (map f xs) ≡ list_any (λ x. p (f x)) xs
any_map p f [] = refl
any_map p f (x ∷ xs) = ap (λ b. p (f x) || b) (any_map p f xs)

pub within_is : (apex name : List (List ℕ)) (records : List AddedRecord) (first past code : ℕ) → first ≤ past → AreOwnedFrom name (listing apex records) first past
    → has_type_within code records first past ≡ has_type_at code name (listing apex records)
within_is apex name records first past code from owned =
    let xs = listing apex records in
    let owns : Record (Unit {0}) (Unit {0}) → Bool = λ r. same_name r.owner name in
    let typed : Record (Unit {0}) (Unit {0}) → Bool = λ r. type_of r == code in
    let long = length-drop first xs in
    let kept = filter_front owns (drop first xs) (past - first)
    (λ i d low lt. ap (λ r. same_name r.owner name) (get_or-drop first xs i d) ∙ owned.owned (first + i) d (omega arith) (omega (arith, lt, from)))
    (λ i d low lt. ap (λ r. same_name r.owner name) (get_or-drop first xs i d) ∙ owned.after (first + i) d (omega (arith, low, from)) (omega (arith, lt, long))) in
    sym (any_map typed (listed_record apex) (take (past - first) (drop first records)))
    ∙ ap (list_any typed) (sym (take-map (listed_record apex) (past - first) (drop first records)) ∙ ap (take (past - first)) (sym (drop-map (listed_record apex) first records)))
    ∙ ap (list_any typed) (sym kept ∙ filter_behind owns xs first owned.before)
    ∙ any_in_filter owns typed xs

any_there : {X : Type 0} (p : X → Bool) (xs : List X) (k : ℕ) (d : X) → k < length xs → p (get_or xs k d) ≡ true → list_any p xs ≡ true
any_there p [] k d lt h = absurd (omega (arith, lt))
any_there p (x ∷ xs) zero d lt h = ap (λ b. b || list_any p xs) h
any_there p (x ∷ xs) (suc k) d lt h = ap (λ b. p x || b) (any_there p xs k d (omega (arith, lt)) h) ∙ either (p x)
  where
    either : (b : Bool) → (b || true) ≡ true
    either true = refl
    either false = refl

module _ (code : ℕ) (records : List AddedRecord) (first past : ℕ) (bound : past ≤ length records) where
  abbrev part : List AddedRecord
  part = take (past - first) (drop first records)

  part_at : (k : ℕ) → k < past - first → get_or part k none ≡ record_at records (first + k)
  part_at k lt = get_or-take (past - first) (drop first records) k none lt ∙ get_or-drop first records k none

  part_length : length part ≡ past - first
  part_length = length-take-le (past - first) (drop first records) (omega (arith, length-drop first records, bound))

  pub within_found : (place : ℕ) → first ≤ place → place < past → ((record_at records place).parts.code == code) ≡ true → has_type_within code records first past ≡ true
  within_found place low lt h =
      any_there (λ r. r.parts.code == code) part (place - first) none (omega (arith, part_length, low, lt))
      (ap (λ r. r.parts.code == code) (part_at (place - first) (omega (arith, low, lt))) ∙ ap (λ n. (record_at records n).parts.code == code) (omega (arith, low)) ∙ h)

  pub within_none : AllWithin (λ r. (r.parts.code == code) ≡ false) records first past → has_type_within code records first past ≡ false
  within_none h =
      none_passes (λ r. r.parts.code == code) part
      (λ k d lt. ap (λ r. r.parts.code == code) (get_or_default part k d none lt) ∙ ap (λ r. r.parts.code == code) (part_at k (omega (arith, lt, part_length))) ∙ h (first + k) none (omega arith) (omega (arith, lt, part_length)))

then_tied : (o p : Ordering) → is_eq (ordering_then o p) ≡ (is_eq o && is_eq p)
then_tied Less p = refl
then_tied Equal p = refl
then_tied Greater p = refl

number_tied : (m n : ℕ) → (m == n) ≡ is_eq (nat_cmp m n)
number_tied m n = Prim.grind (arith, nat_tests)

tied_number : (n : ℕ) → nat_cmp n n ≡ Equal
tied_number n = Prim.grind (arith, nat_tests)

module _ (apex name : List (List ℕ)) (class code : ℕ) where
  one_is : (r : AddedRecord) → IsZoneRecord apex r → r.parts.class ≡ class → is_eq (order_to_rrset r (key_in_zone apex name) class code) ≡ (same_name (listed_record apex r).owner name && type_of (listed_record apex r) == code)
  one_is r is same =
      then_tied (octet_order r.key (key_in_zone apex name)) (ordering_then (nat_cmp r.parts.class class) (nat_cmp r.parts.code code))
      ∙ (λ i. is_eq (key_is_order apex r.key is.owner name i) && is_eq (ordering_then ((ap (λ c. nat_cmp c class) same ∙ tied_number class) i) (nat_cmp r.parts.code code)))
      ∙ (λ i. sym (same_is (listed_record apex r).owner name) i && sym (number_tied r.parts.code code) i)

  pub rrset_is : (records : List AddedRecord) → All (IsZoneRecord apex) records → All (λ r. r.parts.class ≡ class) records
      → has_stored_rrset (key_in_zone apex name) class code records ≡ has_type_at code name (listing apex records)
  rrset_is [] are same = refl
  rrset_is (r ∷ records) are same =
      λ i. one_is r (All-head (IsZoneRecord apex) r records are) (All-head (λ q. q.parts.class ≡ class) r records same) i
      || rrset_is records (All-tail (IsZoneRecord apex) r records are) (All-tail (λ q. q.parts.class ≡ class) r records same) i
