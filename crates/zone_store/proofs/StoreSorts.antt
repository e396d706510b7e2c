-- A store whose entries are sorted.
use Rattle.std.proofs.Common.{ℕ, suc, ◌≡◌, ◌+◌, ◌/◌, ◌%◌, ◌^◌, ◌<◌, ◌≤◌, List, [], ◌∷◌, length, get_or, refl, sym, ap, ◌∙◌, arith}
use Rattle.std.specs.Prelude.{All, Bool, true, false, not, ◌&&◌, nat_lt, map, cond}
use Rattle.std.specs.List.{filter}
use Rattle.std.specs.List.Sorted.{IsNonDecreasingBy, IsPermutation, IsSorted, IsStable}
use Rattle.std.specs.Ordering.{is_lt, nat_cmp, ordering_then, ordering_reverse}
use Rattle.std.specs.declared.cmp.Ordering.{Ordering}
use Rattle.std.specs.declared.cmp.Ordering.TheVariants.{Less, Equal, Greater}
use Rattle.std.proofs.lemmas.Bool.Decides.{nat_tests}
use Rattle.std.proofs.lemmas.List.{get_or-map, length-map}
use Rattle.std.proofs.lemmas.List.Elements.{All-nil, All-cons, All-head, All-tail, All-filter, filter_passes}
use Rattle.std.proofs.lemmas.List.Sorted.{ranks_by, All-permutation, IsPermutation-map, sum_by-IsPermutation}
use Rattle.zone_record.specs.Names.{octet_order}
use Rattle.zone_store.specs.Entries.{IsStoreEntry, entry_order, key_at, record_offset, parts_at, prefix_of, record_of}
use Rattle.zone_store.specs.Prefixes.{prefix_number}
use Rattle.zone_store.specs.Stored.{AddedRecord, parts_cmp, stored_order}
use Rattle.zone_store.specs.Stores.{stored_records}
use Rattle.zone_store.specs.declared.entries.Entry.{Entry}
use Rattle.zone_store.proofs.EntriesRead.{prefix_is}
use Rattle.zone_store.proofs.EntryOrders.{entries_total, same_keys, stored_total, then_equal}
use Rattle.zone_store.proofs.Rising.{NoneLess, Rises, rises_from_sorted, rises_filter, one_list, sum_filter}

-- the elements that come from those that pass a test
filter_map_is : {X Y : Type 0} (f : X → Y) (q : Y → Bool) (xs : List X) → filter q (map f xs) ≡ map f (filter (λ x. q (f x)) xs)
filter_map_is f q [] = refl
filter_map_is {X} {Y} f q (x ∷ xs) = by (filter_map_is f q xs) (q (f x))
  where
    by : filter q (map f xs) ≡ map f (filter (λ x. q (f x)) xs) → (b : Bool) → cond b (f x ∷ filter q (map f xs)) (filter q (map f xs)) ≡ map f (cond b (x ∷ filter (λ y. q (f y)) xs) (filter (λ y. q (f y)) xs))
    by more true = ap (λ ys. f x ∷ ys) more
    by more false = more

pub first_not : (o rest : Ordering) → is_lt (ordering_then o rest) ≡ false → is_lt o ≡ false
first_not Less rest h = h
first_not Equal rest h = refl
first_not Greater rest h = refl

abbrev pub some_entry : Entry
some_entry = record { high = 0; middle = 0; low = 0 }

-- records in the order of their entries
pub sorted_records : (octets : List ℕ) (entries : List Entry) → IsSorted (entry_order octets) entries → IsSorted stored_order (stored_records octets entries)
sorted_records octets entries sorted k d low high =
    let in_range : k + 1 < length entries = omega (arith, high, length-map entries (record_of octets)) in
    let after = get_or-map (record_of octets) entries (k + 1) some_entry d in_range in
    let before = get_or-map (record_of octets) entries k some_entry d (omega (arith, in_range)) in
    (λ i. is_lt (stored_order (after i) (before i))) ∙ first_not _ _ (sorted k some_entry low in_range)

-- entries whose places don't fall
abbrev by_place : Entry → Entry → Bool
by_place a b = nat_lt (record_offset a) (record_offset b)

pub not_below : (m n : ℕ) → n ≤ m → nat_lt m n ≡ false
not_below m n h = Prim.grind (arith, nat_tests)

none_before : (e : Entry) (es : List Entry) → ((j : ℕ) (d : Entry) → j < length es → record_offset e ≤ record_offset (get_or es j d)) → NoneLess by_place e es
unfolding NoneLess
none_before e [] h = tt
none_before e (x ∷ es) h = (not_below (record_offset x) (record_offset e) (h 0 e (omega arith)), none_before e es (λ j d low. h (suc j) d (omega (arith, low))))

places_rise : (es : List Entry) → IsNonDecreasingBy record_offset es → Rises by_place es
unfolding Rises
places_rise [] h = tt
places_rise (e ∷ es) h =
    (none_before e es (λ j d low. h 0 (suc j) d (omega arith) (omega (arith, low))), places_rise es (λ i j d le low. h (suc i) (suc j) d (omega (arith, le)) (omega (arith, low))))

-- keys that tie with a key are equal
tie : (o p : Ordering) → o ≡ ordering_reverse p → not (is_lt o) && not (is_lt p) ≡ true → o ≡ Equal
tie Less p e h = absurd (false_is_true h)
  where
    false_is_true : false ≡ true → ⊥
    false_is_true e = cc
tie Equal p e h = refl
tie Greater Less e h = absurd (no h)
  where
    no : false ≡ true → ⊥
    no e = cc
tie Greater Equal e h = cc
tie Greater Greater e h = cc

lt_is : (m n : ℕ) → is_lt (nat_cmp m n) ≡ nat_lt m n
lt_is m n = Prim.grind (arith, nat_tests)

all_both : {X : Type 0} (P Q : X → Type 0) (xs : List X) → All P xs → All Q xs → All (λ x. P x × Q x) xs
all_both P Q [] h k = All-nil (λ x. P x × Q x)
all_both P Q (x ∷ xs) h k = All-cons (λ y. P y × Q y) x xs (All-head P x xs h, All-head Q x xs k) (all_both P Q xs (All-tail P x xs h) (All-tail Q x xs k))

-- a prefix and an offset make one entry
one_entry : (a b : Entry) → prefix_of a ≡ prefix_of b → record_offset a ≡ record_offset b → a.middle < 2 ^ 32 → b.middle < 2 ^ 32 → a.low < 2 ^ 32 → b.low < 2 ^ 32 → a ≡ b
one_entry a b p o ma mb la lb =
    let high : a.high ≡ b.high = omega (arith, p, ma, mb) in
    let top : a.middle / 2 ^ 8 ≡ b.middle / 2 ^ 8 = omega (arith, p, ma, mb) in
    let rest : a.middle % 2 ^ 8 ≡ b.middle % 2 ^ 8 = omega (arith, o, la, lb) in
    let middle : a.middle ≡ b.middle = omega (arith, top, rest) in
    let low : a.low ≡ b.low = omega (arith, o, la, lb) in
    λ i. record { high = high i; middle = middle i; low = low i }

module _ (octets : List ℕ) (x : AddedRecord) where
  abbrev test : Entry → Bool
  test e = not (is_lt (stored_order x (record_of octets e))) && not (is_lt (stored_order (record_of octets e) x))

  tied : (e : Entry) → test e ≡ true → stored_order x (record_of octets e) ≡ Equal
  tied e h = tie (stored_order x (record_of octets e)) (stored_order (record_of octets e) x) (stored_total.antisymm x (record_of octets e)) h

  tied_both : (a b : Entry) → test a ≡ true → test b ≡ true → stored_order (record_of octets a) (record_of octets b) ≡ Equal
  tied_both a b h m = sym (stored_total.congr x (record_of octets a) (record_of octets b) (tied a h)) ∙ tied b m

  place_not : (a b : Entry) → test a ≡ true → test b ≡ true → is_lt (entry_order octets b a) ≡ false → by_place b a ≡ false
  place_not a b h m not_less =
      sym (lt_is (record_offset b) (record_offset a))
      ∙ sym (ap (λ o. is_lt (ordering_then o (nat_cmp (record_offset b) (record_offset a)))) (tied_both b a m h))
      ∙ not_less

  none_place : (a : Entry) (bs : List Entry) → test a ≡ true → All (λ e. test e ≡ true) bs → NoneLess (λ a b. is_lt (entry_order octets a b)) a bs → NoneLess by_place a bs
  unfolding NoneLess
  none_place a [] h all n = tt
  none_place a (b ∷ bs) h all n =
      (place_not a b h (All-head (λ e. test e ≡ true) b bs all) n.0, none_place a bs h (All-tail (λ e. test e ≡ true) b bs all) n.1)

  rises_place : (es : List Entry) → All (λ e. test e ≡ true) es → Rises (λ a b. is_lt (entry_order octets a b)) es → Rises by_place es
  unfolding Rises
  rises_place [] all r = tt
  rises_place (e ∷ es) all r =
      (none_place e es (All-head (λ e. test e ≡ true) e es all) (All-tail (λ e. test e ≡ true) e es all) r.0, rises_place es (All-tail (λ e. test e ≡ true) e es all) r.1)

  -- entries that tie with a record, and have one offset, are equal
  abbrev Tied : Entry → Type 0
  Tied e = IsStoreEntry octets e × (test e ≡ true)

  apart : (a b : Entry) → Tied a → Tied b → record_offset a ≡ record_offset b → a ≡ b
  apart a b p q same =
      let keys : key_at octets a ≡ key_at octets b = same_keys (key_at octets a) (key_at octets b) (then_equal (octet_order (key_at octets a) (key_at octets b)) (parts_cmp (parts_at octets a) (parts_at octets b)) (tied_both a b p.1 q.1)) in
      let prefixes : prefix_of a ≡ prefix_of b = prefix_is octets a p.0.0 p.0.1 ∙ ap (prefix_number 7) keys ∙ sym (prefix_is octets b q.0.0 q.0.1) in
      one_entry a b prefixes same p.0.1.middle_fits q.0.1.middle_fits p.0.1.low_fits q.0.1.low_fits

  all_tied : (es : List Entry) → All (IsStoreEntry octets) es → All Tied (filter test es)
  all_tied es all = all_both (IsStoreEntry octets) (λ e. test e ≡ true) (filter test es) (All-filter test (IsStoreEntry octets) es all) (filter_passes test es)

  same_entries : (before entries : List Entry) → All (IsStoreEntry octets) before → IsNonDecreasingBy record_offset before → IsPermutation before entries → IsSorted (entry_order octets) entries
      → filter test entries ≡ filter test before
  same_entries before entries good rise moved sorted =
      let order : Rises (λ a b. is_lt (entry_order octets a b)) entries = rises_from_sorted (λ a b. is_lt (entry_order octets a b)) (ranks_by (entries_total octets) (λ e. e)) entries sorted in
      one_list record_offset Tied apart (filter test entries) (filter test before)
      (all_tied entries (All-permutation (IsStoreEntry octets) before entries moved good)) (all_tied before good)
      (rises_place (filter test entries) (filter_passes test entries) (rises_filter (λ a b. is_lt (entry_order octets a b)) test entries order)) (rises_filter by_place test before (places_rise before rise))
      (λ f. sum_filter test f entries ∙ sum_by-IsPermutation (λ e. cond (test e) (f e) 0) before entries moved ∙ sym (sum_filter test f before))

pub stable_records : (octets : List ℕ) (before entries : List Entry) → All (IsStoreEntry octets) before → IsNonDecreasingBy record_offset before → IsPermutation before entries → IsSorted (entry_order octets) entries
    → IsStable stored_order (stored_records octets before) (stored_records octets entries)
stable_records octets before entries good rise moved sorted x =
    let q : AddedRecord → Bool = λ r. not (is_lt (stored_order x r)) && not (is_lt (stored_order r x)) in
    filter_map_is (record_of octets) q entries
    ∙ ap (map (record_of octets)) (same_entries octets x before entries good rise moved sorted)
    ∙ sym (filter_map_is (record_of octets) q before)

pub moved_records : (octets : List ℕ) (before entries : List Entry) → IsPermutation before entries → IsPermutation (stored_records octets before) (stored_records octets entries)
moved_records octets before entries moved = IsPermutation-map (record_of octets) before entries moved
