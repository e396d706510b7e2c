-- Searches among sorted entries.
use Rattle.std.proofs.Common.{ℕ, zero, suc, ◌≡◌, ◌+◌, ◌-◌, ◌<◌, ◌≤◌, Bool, true, false, List, [], ◌∷◌, length, get_or, refl, sym, ap, ◌∙◌, arith}
use Rattle.std.specs.Prelude.{All, nat_le, ◌||◌}
use Rattle.std.specs.List.{AllWithin, list_any}
use Rattle.std.specs.List.Sorted.{IsNonDecreasingBy, IsPartitionedBy, IsPartitionPoint, IsSorted}
use Rattle.std.specs.Cmp.{IsTotalOrder}
use Rattle.std.specs.Ordering.{is_eq, is_le, is_lt, ordering_index, ordering_then}
use Rattle.std.specs.declared.cmp.Ordering.{Ordering}
use Rattle.std.specs.declared.cmp.Ordering.TheVariants.{Less, Equal, Greater}
use Rattle.std.proofs.lemmas.Bool.{false≢true}
use Rattle.std.proofs.lemmas.Cmp.{nat_list_cmp_total, on_total}
use Rattle.std.proofs.lemmas.List.{get_or-map, length-map}
use Rattle.std.proofs.lemmas.List.Elements.{All-get_or}
use Rattle.std.proofs.lemmas.List.Sorted.{searchable_from_sorted, IsPartitionedBy-leb}
use Rattle.zone_record.specs.Names.{octet_order}
use Rattle.zone_record.proofs.OrderTests.{is_tied, less_not_tied, tied_le}
use Rattle.zone_store.specs.Entries.{IsStoreEntry, is_before_key, is_before_rrset, key_at, parts_at, prefixed_keys, record_of}
use Rattle.zone_store.specs.Prefixes.{prefix_number}
use Rattle.zone_store.specs.Stored.{AddedRecord, added_record, has_stored_rrset, order_to_rrset, record_at, stored_order, type_order, CountsBeforeRrset}
use Rattle.zone_store.specs.Stores.{stored_records}
use Rattle.zone_store.specs.declared.entries.Entry.{Entry}
use Rattle.zone_store.proofs.EntryOrders.{prefixed_key, rrsets_total}
use Rattle.zone_store.proofs.KeyPrefixes.{all_octets}
use Rattle.zone_store.proofs.StoreSorts.{first_not, some_entry}

lt_index : (o : Ordering) → nat_le (ordering_index o) 0 ≡ is_lt o
lt_index Less = refl
lt_index Equal = refl
lt_index Greater = refl

le_index : (o : Ordering) → nat_le (ordering_index o) 1 ≡ is_le o
le_index Less = refl
le_index Equal = refl
le_index Greater = refl

refuted : (b c : Bool) → (b ≡ true → c ≡ true) → c ≡ false → b ≡ false
refuted true c f e = absurd (false≢true (sym e ∙ f refl))
refuted false c f e = refl

-- records in an order that their own order refines
module _ {R : AddedRecord → AddedRecord → Ordering} (o : IsTotalOrder R) (coarser : (a b : AddedRecord) → is_lt (stored_order a b) ≡ false → is_lt (R a b) ≡ false) (target : AddedRecord) where
  rise : (records : List AddedRecord) → IsSorted stored_order records → IsNonDecreasingBy (λ r. ordering_index (R r target)) records
  rise records sorted = searchable_from_sorted o (λ r. r) records target (λ k d low high. coarser (get_or records (k + 1) d) (get_or records k d) (sorted k d low high))

  pub lesser_first : (records : List AddedRecord) → IsSorted stored_order records → IsPartitionedBy (λ r. is_lt (R r target)) records
  lesser_first records sorted i j d le lt t =
      sym (lt_index (R (get_or records i d) target))
      ∙ IsPartitionedBy-leb (λ r. ordering_index (R r target)) records 0 (rise records sorted) i j d le lt (lt_index (R (get_or records j d) target) ∙ t)

  pub greater_last : (records : List AddedRecord) → IsSorted stored_order records → IsPartitionedBy (λ r. is_le (R r target)) records
  greater_last records sorted i j d le lt t =
      sym (le_index (R (get_or records i d) target))
      ∙ IsPartitionedBy-leb (λ r. ordering_index (R r target)) records 1 (rise records sorted) i j d le lt (le_index (R (get_or records j d) target) ∙ t)

  -- a test of entries that is one of their records
  module _ (octets : List ℕ) (entries : List Entry) (p : Entry → Bool) (same : (k : ℕ) (d : Entry) → k < length entries → p (get_or entries k d) ≡ is_lt (R (record_of octets (get_or entries k d)) target)) where
    at : (k : ℕ) (d : Entry) (e : AddedRecord) → k < length entries → is_lt (R (get_or (stored_records octets entries) k e) target) ≡ p (get_or entries k d)
    at k d e low = ap (λ r. is_lt (R r target)) (get_or-map (record_of octets) entries k d e low) ∙ sym (same k d low)

    pub parted : IsSorted stored_order (stored_records octets entries) → IsPartitionedBy p entries
    parted sorted i j d le lt t =
        let long = length-map entries (record_of octets) in
        sym (at i d (record_of octets d) (omega (arith, le, lt)))
        ∙ lesser_first (stored_records octets entries) sorted i j (record_of octets d) le (omega (arith, lt, long)) (at j d (record_of octets d) lt ∙ t)

    -- the first of entries after some that pass the test at which it fails
    pub turn : IsSorted stored_order (stored_records octets entries) → (first count : ℕ) → first < count → count < length entries → AllWithin (λ e. p e ≡ true) entries first count
        → ((d : Entry) → p (get_or entries count d) ≡ false) → IsPartitionPoint (λ e. p e ≡ true) (λ e. p e ≡ false) entries count
    turn sorted first count some within all not = (
      λ k d low high. parted sorted k (count - 1) d (omega (arith, high)) (omega (arith, some, within)) (all (count - 1) d (omega (arith, some)) (omega (arith, some))),
      λ k d low high. refuted (p (get_or entries k d)) (p (get_or entries count d)) (parted sorted count k d low high) (not d),
    )

    pub point : (count : ℕ) → count ≤ length entries → IsPartitionPoint (λ e. p e ≡ true) (λ e. p e ≡ false) entries count
        → IsPartitionPoint (λ r. is_lt (R r target) ≡ true) (λ r. is_lt (R r target) ≡ false) (stored_records octets entries) count
    point count bound h =
        let long = length-map entries (record_of octets) in (
          λ k d low high. at k some_entry d (omega (arith, high, bound)) ∙ h.0 k some_entry low high,
          λ k d low high. at k some_entry d (omega (arith, high, long)) ∙ h.1 k some_entry low (omega (arith, high, long)),
        )

-- by the keys alone
pub keys_total : IsTotalOrder (λ (a b : AddedRecord). octet_order a.key b.key)
keys_total = on_total (λ (r : AddedRecord). r.key) nat_list_cmp_total

pub keys_coarser : (a b : AddedRecord) → is_lt (stored_order a b) ≡ false → is_lt (octet_order a.key b.key) ≡ false
keys_coarser a b h = first_not _ _ h

-- by key, class and type
abbrev pub rrset_order : AddedRecord → AddedRecord → Ordering
rrset_order a b = order_to_rrset a b.key b.parts.class b.parts.code

then_not : (p q r : Ordering) → is_lt (ordering_then p (ordering_then q r)) ≡ false → is_lt (ordering_then p q) ≡ false
then_not Less q r h = h
then_not Equal q r h = first_not q r h
then_not Greater q r h = refl

pub rrsets_coarser : (a b : AddedRecord) → is_lt (stored_order a b) ≡ false → is_lt (rrset_order a b) ≡ false
rrsets_coarser a b h = then_not (octet_order a.key b.key) (type_order a.parts b.parts.class b.parts.code) _ h

abbrev pub rrset : List ℕ → ℕ → ℕ → AddedRecord
rrset key class code = added_record key (record { code = code; class = class; ttl = 0; file = 0; offset = 0; rdata = [] })

module _ (octets key : List ℕ) (few : (i : ℕ) → get_or key i 0 < 256) (prefix : ℕ) (is : prefix ≡ prefix_number 7 key) (entries : List Entry) (all : All (IsStoreEntry octets) entries) where
  keyed : (k : ℕ) (d : Entry) → k < length entries → prefixed_keys octets (get_or entries k d) prefix key ≡ octet_order (key_at octets (get_or entries k d)) key
  keyed k d low = prefixed_key octets (get_or entries k d) prefix key (all_octets key few) (All-get_or (IsStoreEntry octets) entries k d low all) is

  pub before_key : (k : ℕ) (d : Entry) → k < length entries → is_before_key octets prefix key (get_or entries k d) ≡ is_lt (octet_order (record_of octets (get_or entries k d)).key key)
  before_key k d low = ap is_lt (keyed k d low)

  pub before_rrset : (class code k : ℕ) (d : Entry) → k < length entries
      → is_before_rrset octets prefix key class code (get_or entries k d) ≡ is_lt (order_to_rrset (record_of octets (get_or entries k d)) key class code)
  before_rrset class code k d low =
      ap (λ o. is_lt (ordering_then o (type_order (parts_at octets (get_or entries k d)) class code))) (keyed k d low)

-- ---- the first of those that pass a test

module _ {X : Type 0} (p : X → Bool) where
  none_passes : (xs : List X) → ((i : ℕ) (d : X) → i < length xs → p (get_or xs i d) ≡ false) → list_any p xs ≡ false
  none_passes [] h = refl
  none_passes (x ∷ xs) h = ap (λ b. b || list_any p xs) (h 0 x (omega arith)) ∙ none_passes xs (λ i d lt. h (suc i) d (omega (arith, lt)))

  -- any element passes if and only if the first one that does not come before it does
  any_at : (xs : List X) (place : ℕ) (e : X) → place < length xs → AllWithin (λ x. p x ≡ false) xs 0 place → ((i : ℕ) (d : X) → place ≤ i → i < length xs → p (get_or xs i d) ≡ true → p (get_or xs place d) ≡ true)
      → list_any p xs ≡ p (get_or xs place e)
  any_at [] place e within h k = absurd (omega (arith, within))
  any_at (x ∷ xs) zero e within h k = by (p x) refl
    where
      by : (b : Bool) → p x ≡ b → (b || list_any p xs) ≡ b
      by true e = refl
      by false e = none_passes xs (λ i d lt. refuted (p (get_or xs i d)) (p x) (k (suc i) d (omega arith) (omega (arith, lt))) e)
  any_at (x ∷ xs) (suc n) e within h k =
      ap (λ b. b || list_any p xs) (h 0 x (omega arith) (omega arith))
      ∙ any_at xs n e (omega (arith, within)) (λ i d low lt. h (suc i) d (omega arith) (omega (arith, lt))) (λ i d low lt. k (suc i) d (omega (arith, low)) (omega (arith, lt)))

module _ (key : List ℕ) (class code : ℕ) (records : List AddedRecord) (count : ℕ) (sorted : IsSorted stored_order records) (counts : CountsBeforeRrset key class code records count) where
  before : AllWithin (λ r. is_eq (order_to_rrset r key class code) ≡ false) records 0 count
  before i d low lt = less_not_tied (order_to_rrset (get_or records i d) key class code) (counts.0 i d low lt)

  pub rrset_found : count < length records → has_stored_rrset key class code records ≡ is_eq (order_to_rrset (record_at records count) key class code)
  rrset_found within =
      any_at (λ r. is_eq (order_to_rrset r key class code)) records count _ within before
      (λ i d low lt t.
      is_tied (order_to_rrset (get_or records count d) key class code) (counts.1 count d (omega arith) within)
      (greater_last rrsets_total rrsets_coarser (rrset key class code) records sorted count i d low lt (tied_le (order_to_rrset (get_or records i d) key class code) t)))

  pub rrset_absent : length records ≤ count → has_stored_rrset key class code records ≡ false
  rrset_absent beyond =
      none_passes (λ r. is_eq (order_to_rrset r key class code)) records (λ i d lt. before i d (omega arith) (omega (arith, lt, beyond)))
