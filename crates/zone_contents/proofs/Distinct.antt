-- The records of a zone without duplicates, from an index on.
use Rattle.std.proofs.Common.{ℕ, zero, suc, ◌≡◌, ◌+◌, ◌-◌, ◌<◌, ◌≤◌, Bool, true, false, cond, inl, inr, List, [], ◌∷◌, ◌++◌, length, drop, get_or, refl, sym, ap, ◌∙◌, arith, drop_of_length-le}
use Rattle.std.specs.Prelude.{Some, ◌&&◌, if◌then◌else◌, nat_lt, slice_get}
use Rattle.std.specs.Cmp.{IsTotalOrder, Equal-is}
use Rattle.std.specs.List.{dedup, dedup_from}
use Rattle.std.specs.List.Sorted.{IsSorted}
use Rattle.std.specs.Option.{option_map}
use Rattle.std.specs.Ordering.{eq_by_cmp, is_eq, is_le, is_lt, ordering_reverse, ordering_then}
use Rattle.std.specs.declared.cmp.Ordering.{Ordering}
use Rattle.std.specs.declared.cmp.Ordering.TheVariants.{Less, Equal, Greater}
use Rattle.std.proofs.lemmas.Bool.{cases_lt, false≢true, lt-ltb}
use Rattle.std.proofs.lemmas.Cmp.{alike_right, tied_itself}
use Rattle.std.proofs.lemmas.List.{drop-drop, drop_more, get_or-drop, length-drop}
use Rattle.std.proofs.lemmas.List.Kept.{IsStrictlySortedBy-dedup}
use Rattle.zone_record.specs.CanonicalData.{canonical_data}
use Rattle.zone_record.specs.CanonicalRecords.{record_order}
use Rattle.zone_record.specs.Keys.{order_key}
use Rattle.zone_record.specs.Names.{octet_order}
use Rattle.zone_record.specs.declared.record.Record.{Record}
use Rattle.zone_record.proofs.KeyNames.{name_read}
use Rattle.zone_contents.specs.Contents.{contents, listed_record, listing, AreSortedRecords, IsZoneRecord, ZoneValue}
use Rattle.zone_contents.specs.Digests.{first_at}
use Rattle.zone_contents.specs.Steps.{distinct_from, EndsDuplicates, HasDistinct, SkipsDuplicates}
use Rattle.zone_contents.proofs.Listings.{listed_at, listed_get, listed_length, not_back, valid_at}
use Rattle.zone_contents.proofs.ZoneKeys.{keys_in_order}
use Rattle.zone_contents.proofs.ZoneNames.{owner_is}
use Rattle.zone_rules.specs.Zones.{as_listed, AreInOrder}
use Rattle.zone_store.specs.Duplicates.{is_duplicate_at}
use Rattle.zone_contents.specs.Lookups.{canonical_order, same_key, AreCanonical}
use Rattle.zone_store.specs.Stored.{AddedRecord, absent_parts, added_record, is_same_stored, parts_cmp, record_at, stored_order}
use Rattle.zone_store.proofs.CanonicalOrders as Orders
use Rattle.zone_contents.proofs.Passing.{order_total}

abbrev Listed : Type 0
Listed = Record (Unit {0}) (Unit {0})

-- ---- duplicates after one element

turned : (c : Ordering) → is_eq (ordering_reverse c) ≡ is_eq c
turned Less = refl
turned Equal = refl
turned Greater = refl

module _ {X : Type 0} {R : X → X → Ordering} (o : IsTotalOrder R) where
  alike : (k p y : X) → R p k ≡ Equal → eq_by_cmp R y k ≡ eq_by_cmp R p y
  alike k p y tie = ap is_eq (sym (alike_right o p k y tie)) ∙ ap is_eq (o.antisymm y p) ∙ turned (R p y)

  -- the elements up to an index are the same as those before them, and the next one is not
  pub dedup_run : (k p : X) (ys : List X) (n : ℕ) → R p k ≡ Equal → n ≤ length ys → ((i : ℕ) (d : X) → i < n → eq_by_cmp R (get_or (p ∷ ys) i d) (get_or ys i d) ≡ true)
      → ((d : X) → n < length ys → eq_by_cmp R (get_or (p ∷ ys) n d) (get_or ys n d) ≡ false) → dedup_from (eq_by_cmp R) k ys ≡ k ∷ dedup (eq_by_cmp R) (drop n ys)
  dedup_run k p [] zero tie bound same ends = refl
  dedup_run k p [] (suc n) tie bound same ends = absurd (omega (arith, bound))
  dedup_run k p (y ∷ ys) zero tie bound same ends =
      ap (λ b. cond b (dedup_from (eq_by_cmp R) k ys) (k ∷ dedup_from (eq_by_cmp R) y ys)) (alike k p y tie ∙ ends y (omega arith))
  dedup_run k p (y ∷ ys) (suc n) tie bound same ends =
      let here : eq_by_cmp R y k ≡ true = alike k p y tie ∙ same 0 y (omega arith) in
      ap (λ b. cond b (dedup_from (eq_by_cmp R) k ys) (k ∷ dedup_from (eq_by_cmp R) y ys)) here
      ∙ dedup_run k y ys n ((Equal-is (R y k)).0 here) (omega (arith, bound)) (λ i d lt. same (suc i) d (omega (arith, lt))) (λ d lt. ends d (omega (arith, lt)))

-- the first element stays
first_kept : {X : Type 0} (E : X → X → Bool) (k : X) (ys : List X) → dedup_from E k ys ≡ k ∷ drop 1 (dedup_from E k ys)
first_kept E k [] = refl
first_kept E k (y ∷ ys) =
    elim (E y k) as (λ b. cond b (dedup_from E k ys) (k ∷ dedup_from E y ys) ≡ k ∷ drop 1 (cond b (dedup_from E k ys) (k ∷ dedup_from E y ys))) [ true ↦ first_kept E k ys | false ↦ refl ]

starts : {X : Type 0} (E : X → X → Bool) (xs : List X) (x : X) (ys : List X) → xs ≡ x ∷ ys → dedup E xs ≡ x ∷ drop 1 (dedup E xs)
starts E xs x ys e = ap (dedup E) e ∙ first_kept E x ys ∙ ap (λ l. x ∷ drop 1 (dedup E l)) (sym e)

is_later : (k : ℕ) → 0 < k → nat_lt 0 k ≡ true
is_later k low = lt-ltb 0 k low

-- ---- the order of records

module _ (apex : List (List ℕ)) where
  -- records of a store compare in canonical order
  pub stored_in_order : (a b : AddedRecord) → IsZoneRecord apex a → IsZoneRecord apex b → stored_order a b ≡ canonical_order (listed_record apex a) (listed_record apex b)
  stored_in_order a b p q =
      let m = p.owner.name in
      let n = q.owner.name in
      let a' = added_record (order_key m) a.parts in
      let b' = added_record (order_key n) b.parts in
      let left = name_read m ∙ sym (owner_is apex a.key p.owner) in
      let right = name_read n ∙ sym (owner_is apex b.key q.owner) in
      ap (λ c. ordering_then c (parts_cmp a.parts b.parts)) ((λ i. octet_order (p.owner.is i) (q.owner.is i)) ∙ keys_in_order (order_key apex) (order_key m) (order_key n))
      ∙ Orders.canonical_order a' b' (record { owner = (m, refl); rdata = p.rdata }) (record { owner = (n, refl); rdata = q.rdata })
      ∙ (λ i. record_order
      (record { owner = left i; class = a.parts.class; rtype = a.parts.code; octets = canonical_data a.parts.code a.parts.rdata })
      (record { owner = right i; class = b.parts.class; rtype = b.parts.code; octets = canonical_data b.parts.code b.parts.rdata }))

  module _ (records : List AddedRecord) (are : AreSortedRecords apex records) where
    abbrev xs : List Listed
    xs = listing apex records

    abbrev at : ℕ → Listed
    at k = listed_record apex (record_at records k)

    in_order : (j k : ℕ) → j < length records → k < length records → stored_order (record_at records j) (record_at records k) ≡ canonical_order (at j) (at k)
    in_order j k low lt = stored_in_order (record_at records j) (record_at records k) (valid_at apex records are.are j low) (valid_at apex records are.are k lt)

    sorted_from : (place : ℕ) → IsSorted canonical_order (drop place xs)
    sorted_from place k d low lt =
        let long = length-drop place xs in
        let next : place + (k + 1) < length records = omega (arith, lt, long, listed_length apex records) in
        let here : place + k < length records = omega (arith, next) in
        (λ i. is_lt (canonical_order (get_or-drop place xs (k + 1) d i) (get_or-drop place xs k d i)))
        ∙ (λ i. is_lt (canonical_order (listed_at apex records (place + (k + 1)) d next i) (listed_at apex records (place + k) d here i)))
        ∙ ap is_lt (sym (in_order (place + (k + 1)) (place + k) next here))
        ∙ ap (λ m. is_lt (stored_order (record_at records m) (record_at records (place + k)))) (omega arith)
        ∙ are.sorted (place + k) (added_record [] absent_parts) (omega arith) (omega (arith, next))

    -- the records are in canonical order
    pub listed_in_order : AreInOrder xs
    listed_in_order k d lt =
        let next : k + 1 < length records = omega (arith, lt, listed_length apex records) in
        let here : k < length records = omega (arith, next) in
        (λ i. is_le (canonical_order (listed_at apex records k d here i) (listed_at apex records (k + 1) d next i)))
        ∙ ap is_le (order_total.antisymm (at k) (at (k + 1)) ∙ ap ordering_reverse (sym (in_order (k + 1) k next here)))
        ∙ not_back (stored_order (record_at records (k + 1)) (record_at records k)) (are.sorted k (added_record [] absent_parts) (omega arith) next)

    -- records without duplicates are in canonical order
    pub canonical_from : (place : ℕ) → AreCanonical (dedup same_key (drop place xs))
    canonical_from place = IsStrictlySortedBy-dedup order_total (λ x y. refl) (drop place xs) (sorted_from place)

    duplicate_is : (k : ℕ) → 0 < k → k < length records → is_duplicate_at records k ≡ same_key (at (k - 1)) (at k)
    duplicate_is k low lt = ap (λ b. b && is_same_stored (record_at records (k - 1)) (record_at records k)) (is_later k low) ∙ ap is_eq (in_order (k - 1) k (omega (arith, lt)) lt)

    before_is : (place i : ℕ) (d : Listed) → place + i < length records → get_or (at place ∷ drop (place + 1) xs) i d ≡ at (place + i)
    before_is place zero d lt = ap at (omega arith)
    before_is place (suc j) d lt = get_or-drop (place + 1) xs j d ∙ listed_at apex records (place + 1 + j) d (omega (arith, lt)) ∙ ap at (omega arith)

    -- two records after an index, one after the other, are duplicates as the store has it
    tied : (place i : ℕ) (d : Listed) → place + 1 + i < length records
        → same_key (get_or (at place ∷ drop (place + 1) xs) i d) (get_or (drop (place + 1) xs) i d) ≡ is_duplicate_at records (place + 1 + i)
    tied place i d lt =
        (λ j. same_key (before_is place i d (omega (arith, lt)) j) ((get_or-drop (place + 1) xs i d ∙ listed_at apex records (place + 1 + i) d lt) j))
        ∙ ap (λ m. same_key (at m) (at (place + 1 + i))) (omega arith)
        ∙ sym (duplicate_is (place + 1 + i) (omega arith) lt)

    -- the records from an index on are the one there, and those after its duplicates
    pub skipped : (place next : ℕ) → place < length records → EndsDuplicates records place next → dedup same_key (drop place xs) ≡ at place ∷ dedup same_key (drop next xs)
    skipped place next lt run =
        let long = listed_length apex records in
        let n = next - (place + 1) in
        let ys = drop (place + 1) xs in
        let more : length ys ≡ length xs - (place + 1) = length-drop (place + 1) xs in
        let first = at place in
        ap (dedup same_key) (drop_more xs place first (omega (arith, lt, long)) ∙ ap (λ r. r ∷ ys) (listed_at apex records place first lt))
        ∙ dedup_run order_total first first ys n (tied_itself order_total first) (omega (arith, more, long, run.bound, run.from))
        (λ i d low. tied place i d (omega (arith, low, run.bound)) ∙ run.same (place + 1 + i) (omega arith) (omega (arith, low)))
        (λ d low. tied place n d (omega (arith, low, more, long)) ∙ ap (is_duplicate_at records) (omega (arith, run.from)) ∙ run.ends (omega (arith, low, more, long, run.from)))
        ∙ ap (λ l. first ∷ dedup same_key l) (drop-drop n (place + 1) xs ∙ ap (λ m. drop m xs) (omega (arith, run.from)))

-- ---- the records of a zone, one after another

module _ {X : Type 0} {R : X → X → Ordering} (o : IsTotalOrder R) where
  -- after the first one the same elements stay, whichever of two that tie it is
  tail_alike : (k p : X) (ys : List X) → R p k ≡ Equal → drop 1 (dedup_from (eq_by_cmp R) k ys) ≡ drop 1 (dedup_from (eq_by_cmp R) p ys)
  tail_alike k p [] tie = refl
  tail_alike k p (y ∷ ys) tie =
      let E = eq_by_cmp R in
      ap (λ b. drop 1 (cond b (dedup_from E k ys) (k ∷ dedup_from E y ys))) (ap is_eq (sym (alike_right o p k y tie)))
      ∙ elim (E y p) as (λ b. drop 1 (cond b (dedup_from E k ys) (k ∷ dedup_from E y ys)) ≡ drop 1 (cond b (dedup_from E p ys) (p ∷ dedup_from E y ys))) [ true ↦ tail_alike k p ys tie | false ↦ refl ]

  -- the element after one stays, unless it ties with it
  stays : (k p : X) (ys : List X) (b : Bool) → eq_by_cmp R p k ≡ b → drop 1 (cond b (dedup_from (eq_by_cmp R) k ys) (k ∷ dedup_from (eq_by_cmp R) p ys)) ≡ (if b then [] else p ∷ []) ++ drop 1 (dedup_from (eq_by_cmp R) p ys)
  stays k p ys true h = tail_alike k p ys ((Equal-is (R p k)).0 h)
  stays k p ys false h = first_kept (eq_by_cmp R) p ys

  turned_test : (k p : X) → eq_by_cmp R k p ≡ eq_by_cmp R p k
  turned_test k p = ap is_eq (o.antisymm k p) ∙ turned (R p k)

-- the records from an index on, without duplicates of the one before it
abbrev pub rest_from : ZoneValue → ℕ → List Listed
rest_from z zero = distinct_from z 0
rest_from z (suc n) = drop 1 (distinct_from z n)

module _ (apex : List (List ℕ)) (records : List AddedRecord) where
  abbrev listed : ZoneValue
  listed = record { apex = apex; records = records }

  abbrev here : ℕ → Listed
  here k = listed_record apex (record_at records k)

  from : (n : ℕ) → n < length records → drop n (listing apex records) ≡ here n ∷ drop (suc n) (listing apex records)
  from n lt =
      let next : n + 1 ≡ suc n = omega arith in
      drop_more (listing apex records) n (here n) (omega (arith, lt, listed_length apex records)) ∙ ap (λ r. r ∷ drop (n + 1) (listing apex records)) (listed_at apex records n (here n) lt)
      ∙ ap (λ m. here n ∷ drop m (listing apex records)) next

  gone : (n : ℕ) → length records ≤ n → drop n (listing apex records) ≡ []
  gone n low = drop_of_length-le (listing apex records) (omega (arith, low, listed_length apex records))

  rest_ends : (n : ℕ) → length records ≤ suc n → drop 1 (distinct_from listed n) ≡ []
  rest_ends n low =
      elim (cases_lt n (length records)) [
        | inl lt ↦ ap (λ l. drop 1 (dedup same_key l)) (from n lt ∙ ap (λ l. here n ∷ l) (gone (suc n) low))
        | inr more ↦ ap (λ l. drop 1 (dedup same_key l)) (gone n (omega (arith, more)))
      ]

  pub rest_none : (place : ℕ) → length records ≤ place → rest_from listed place ≡ []
  rest_none zero low = ap (dedup same_key) (gone 0 low)
  rest_none (suc n) low = rest_ends n low

  module _ (are : AreSortedRecords apex records) where
    rest_after : (n : ℕ) → suc n < length records → drop 1 (distinct_from listed n) ≡ first_at listed (suc n) ++ drop 1 (distinct_from listed (suc n))
    rest_after n lt =
        let later = drop (suc (suc n)) (listing apex records) in
        let both : drop n (listing apex records) ≡ here n ∷ here (suc n) ∷ later = from n (omega (arith, lt)) ∙ ap (λ l. here n ∷ l) (from (suc n) lt) in
        let b = is_duplicate_at records (suc n) in
        let same : same_key (here (suc n)) (here n) ≡ b =
        turned_test order_total (here (suc n)) (here n) ∙ ap (λ m. same_key (here m) (here (suc n))) (omega arith) ∙ sym (duplicate_is apex records are (suc n) (omega arith) lt) in
        ap (λ l. drop 1 (dedup same_key l)) both
        ∙ ap (λ c. drop 1 (cond c (dedup_from same_key (here n) later) (here n ∷ dedup_from same_key (here (suc n)) later))) same
        ∙ stays order_total (here n) (here (suc n)) later b same
        ∙ ap (λ l. first_at listed (suc n) ++ drop 1 (dedup same_key l)) (sym (from (suc n) lt))

    -- the records from an index on are the one there, unless it is a duplicate, and those after it
    pub rest_step : (place : ℕ) → place < length records → rest_from listed place ≡ first_at listed place ++ rest_from listed (suc place)
    rest_step zero lt = starts same_key (listing apex records) (here 0) (drop 1 (listing apex records)) (from 0 lt)
    rest_step (suc n) lt = rest_after n lt

-- ---- the records of a zone

module _ (apex : List (List ℕ)) (records : List AddedRecord) (are : AreSortedRecords apex records) where
  abbrev zone : ZoneValue
  zone = record { apex = apex; records = records }

  pub zone_skips : (place next : ℕ) → place < length records → EndsDuplicates records place next → SkipsDuplicates zone place next
  zone_skips place next lt run =
      let step = skipped apex records are place next lt run in
      record { fewer = ap length step ∙ omega arith; are = step }

  pub zone_has : (place : ℕ) → place < length records → HasDistinct zone place true
  zone_has place lt = record {
    ordered = canonical_from apex records are place;
    inside = λ _. lt;
    first = λ _. starts same_key (drop place (listing apex records)) (listed_record apex (record_at records place)) (drop (place + 1) (listing apex records))
        (drop_more (listing apex records) place (listed_record apex (record_at records place)) (omega (arith, lt, listed_length apex records))
        ∙ ap (λ r. r ∷ drop (place + 1) (listing apex records)) (listed_at apex records place (listed_record apex (record_at records place)) lt));
    none = λ e. absurd (false≢true (sym e));
  }

  pub zone_lacks : (place : ℕ) → length records ≤ place → HasDistinct zone place false
  zone_lacks place low = record {
    ordered = canonical_from apex records are place;
    inside = λ e. absurd (false≢true e);
    first = λ e. absurd (false≢true e);
    none = λ _. ap (dedup same_key) (drop_of_length-le (listing apex records) (omega (arith, low, listed_length apex records)));
  }

-- ---- one record

same_some : {X : Type 0} (x y : X) → Some x ≡ Some y → x ≡ y
same_some x y h = cc

pub has_place : (z : ZoneValue) (place : ℕ) → place < length z.records → place < length (contents z)
has_place z place lt = omega (arith, lt, listed_length z.apex z.records)

pub record_is : {N O : Type 0} (z : ZoneValue) (place : ℕ) (r : Record N O) → place < length z.records → Some r ≡ option_map as_listed (slice_get (contents z) place)
    → r ≡ as_listed (listed_record z.apex (record_at z.records place))
record_is z place r lt e = same_some r (as_listed (listed_record z.apex (record_at z.records place))) (e ∙ ap (option_map as_listed) (listed_get z.apex z.records place lt))

pub one_more_duplicate : (records : List AddedRecord) (place next : ℕ) → ((k : ℕ) → place < k → k < next → is_duplicate_at records k ≡ true) → is_duplicate_at records next ≡ true
    → (k : ℕ) → place < k → k < next + 1 → is_duplicate_at records k ≡ true
one_more_duplicate records place next before here k above lt = elim (cases_lt k next) [ inl less ↦ before k above less | inr more ↦ ap (is_duplicate_at records) (omega (arith, more, lt)) ∙ here ]
