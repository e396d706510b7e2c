-- The records at a name, among records in order.
use Rattle.std.proofs.Common.{ℕ, zero, suc, ◌⊎◌, inl, inr, ◌≡◌, ◌+◌, ◌-◌, ◌*◌, ◌^◌, ◌<◌, ◌≤◌, min, Bool, true, false, cond, List, [], ◌∷◌, length, take, drop, map, get_or, refl, sym, ap, subst, ◌∙◌, arith, length-drop}
use Rattle.std.specs.Prelude.{reverse, not, ◌==◌, ◌&&◌, ◌||◌}
use Rattle.std.specs.Prelude.{nat_le}
use Rattle.std.specs.Cmp.{both_ways}
use Rattle.std.specs.Cmp.Lexicographic.{pointwise_decides, bytes_decides, lists_ties, texts_ties}
use Rattle.std.specs.List.{AllWithin, filter, list_any}
use Rattle.std.specs.List.Sorted.{IsNonDecreasingBy, IsPartitionedBy, IsPartitionPoint}
use Rattle.std.specs.Ordering.{is_eq, is_lt, is_le, ordering_index, ordering_reverse, ordering_then}
use Rattle.std.specs.declared.cmp.Ordering.{Ordering}
use Rattle.std.specs.declared.cmp.Ordering.TheVariants.{Less, Equal, Greater}
use Rattle.std.proofs.Math.Nat.{le-min}
use Rattle.std.proofs.lemmas.Bool.{cases_lt, false≢true}
use Rattle.std.proofs.lemmas.Bool.Decides.{nat_tests}
use Rattle.std.proofs.lemmas.List.{reverse-reverse, take_all, get_or-drop, get_or-take, length-take-le}
use Rattle.std.proofs.lemmas.List.Sorted.{searchable_from_sorted, IsPartitionedBy-leb, IsNonDecreasingBy-drop}
use Rattle.dns_octets.specs.Lowered.{lowered}
use Rattle.dns_wire.specs.Order.{same_name}
use Rattle.zone_record.specs.Names.{octet_order, labels_from_root, name_order}
use Rattle.zone_record.specs.CanonicalRecords.{record_order}
use Rattle.zone_record.proofs.Orders.{names_total}
use Rattle.zone_record.specs.CanonicalData.{record_key}
use Rattle.zone_record.specs.declared.record.Record.{Record}
use Rattle.zone_record.proofs.OrderTests.{is_tied, less_not_tied}
use Rattle.zone_rules.specs.Searches.{AreOwnedFrom}
use Rattle.zone_rules.specs.Zones.{AreInOrder, has_type_among, has_type_at, type_of}

-- ---- names that compare as equal are the same name

same_labels : (a b : List (List ℕ)) → is_eq (name_order a b) ≡ true → same_name a b ≡ true
same_labels a b h =
    let x = labels_from_root a in
    let y = labels_from_root b in
    let same = (pointwise_decides bytes_decides x y).0 (lists_ties octet_order texts_ties x y ∙ h) in
    (pointwise_decides bytes_decides (map lowered a) (map lowered b)).1 (sym (reverse-reverse (map lowered a)) ∙ ap reverse same ∙ reverse-reverse (map lowered b))

same_order : (a b : List (List ℕ)) → same_name a b ≡ true → is_eq (name_order a b) ≡ true
same_order a b h =
    let x = labels_from_root a in
    let y = labels_from_root b in
    sym (lists_ties octet_order texts_ties x y) ∙ (pointwise_decides bytes_decides x y).1 (ap reverse ((pointwise_decides bytes_decides (map lowered a) (map lowered b)).0 h))

pub same_is : (a b : List (List ℕ)) → same_name a b ≡ is_eq (name_order a b)
same_is a b = both_ways (same_name a b) (is_eq (name_order a b)) (same_order a b) (same_labels a b)

-- ---- owners are in ascending order

not_before : (o rest back : Ordering) → back ≡ ordering_reverse o → is_le (ordering_then o rest) ≡ true → is_lt back ≡ false
not_before Less rest back e h = ap is_lt e
not_before Equal rest back e h = ap is_lt e
not_before Greater rest back e h = cc

index_lt : (o : Ordering) → nat_le (ordering_index o) 0 ≡ is_lt o
index_lt Less = refl
index_lt Equal = refl
index_lt Greater = refl

index_le : (o : Ordering) → nat_le (ordering_index o) 1 ≡ is_le o
index_le Less = refl
index_le Equal = refl
index_le Greater = refl

module _ {N O : Type 0} (name : List (List ℕ)) where
  abbrev owner_order : Record N O → Ordering
  owner_order r = name_order r.owner name

  owners_rise : (rs : List (Record N O)) → AreInOrder rs → IsNonDecreasingBy (λ r. ordering_index (owner_order r)) rs
  owners_rise rs h =
      searchable_from_sorted names_total (λ r. r.owner) rs name
      (λ k d low lt. not_before (name_order (get_or rs k d).owner (get_or rs (k + 1) d).owner) _ _ (names_total.antisymm (get_or rs (k + 1) d).owner (get_or rs k d).owner) (h k d lt))

  pub before_parted : (rs : List (Record N O)) → AreInOrder rs → IsPartitionedBy (λ r. is_lt (owner_order r)) rs
  before_parted rs h i j d le lt t =
      sym (index_lt (owner_order (get_or rs i d)))
      ∙ IsPartitionedBy-leb (λ r. ordering_index (owner_order r)) rs 0 (owners_rise rs h) i j d le lt (index_lt (owner_order (get_or rs j d)) ∙ t)

  pub upto_parted : (rs : List (Record N O)) (from : ℕ) → AreInOrder rs → IsPartitionedBy (λ r. is_le (owner_order r)) (drop from rs)
  upto_parted rs from h i j d le lt t =
      sym (index_le (owner_order (get_or (drop from rs) i d)))
      ∙ IsPartitionedBy-leb (λ r. ordering_index (owner_order r)) (drop from rs) 1 (IsNonDecreasingBy-drop (λ r. ordering_index (owner_order r)) from rs (owners_rise rs h)) i j d le lt
      (index_le (owner_order (get_or (drop from rs) j d)) ∙ t)

-- ---- filters of parts

module _ {X : Type 0} (p : X → Bool) where
  pub filter_behind : (xs : List X) (from : ℕ) → AllWithin (λ x. p x ≡ false) xs 0 from → filter p (drop from xs) ≡ filter p xs
  filter_behind xs zero h = refl
  filter_behind [] (suc n) h = refl
  filter_behind (x ∷ xs) (suc n) h =
      filter_behind xs n (λ k d low lt. h (suc k) d (omega arith) (omega arith)) ∙ ap (λ b. cond b (x ∷ filter p xs) (filter p xs)) (sym (h 0 x (omega arith) (omega arith)))

  filter_nothing : (xs : List X) → AllWithin (λ x. p x ≡ false) xs 0 (length xs) → filter p xs ≡ []
  filter_nothing [] h = refl
  filter_nothing (x ∷ xs) h =
      ap (λ b. cond b (x ∷ filter p xs) (filter p xs)) (h 0 x (omega arith) (omega arith)) ∙ filter_nothing xs (λ k d low lt. h (suc k) d (omega arith) (omega arith))

  pub filter_front : (xs : List X) (count : ℕ) → AllWithin (λ x. p x ≡ true) xs 0 count → AllWithin (λ x. p x ≡ false) xs count (length xs) → filter p xs ≡ take count xs
  filter_front xs zero h k = filter_nothing xs k
  filter_front [] (suc n) h k = refl
  filter_front (x ∷ xs) (suc n) h k =
      ap (λ b. cond b (x ∷ filter p xs) (filter p xs)) (h 0 x (omega arith) (omega arith))
      ∙ ap (λ l. x ∷ l) (filter_front xs n (λ i d low lt. h (suc i) d (omega arith) (omega arith)) (λ i d low lt. k (suc i) d (omega arith) (omega arith)))

  any_step : (q : X → Bool) (x : X) (xs : List X) (b : Bool) → list_any q (filter p xs) ≡ list_any (λ y. p y && q y) xs
      → list_any q (cond b (x ∷ filter p xs) (filter p xs)) ≡ (b && q x) || list_any (λ y. p y && q y) xs
  any_step q x xs true h = ap (λ v. q x || v) h
  any_step q x xs false h = h

  pub any_in_filter : (q : X → Bool) (xs : List X) → list_any q (filter p xs) ≡ list_any (λ x. p x && q x) xs
  any_in_filter q [] = refl
  any_in_filter q (x ∷ xs) = any_step q x xs (p x) (any_in_filter q xs)

  -- the elements that pass the filter, in a test that the filter is part of
  kept_step : (q : X → Bool) (x : X) (xs : List X) (b : Bool) → b ≡ p x → list_any (λ y. p y && q y) (filter p xs) ≡ list_any (λ y. p y && q y) xs
      → list_any (λ y. p y && q y) (cond b (x ∷ filter p xs) (filter p xs)) ≡ (p x && q x) || list_any (λ y. p y && q y) xs
  kept_step q x xs true e h = ap (λ v. (p x && q x) || v) h
  kept_step q x xs false e h = h ∙ ap (λ v. (v && q x) || list_any (λ y. p y && q y) xs) e

  pub any_kept : (q : X → Bool) (xs : List X) → list_any (λ x. p x && q x) (filter p xs) ≡ list_any (λ x. p x && q x) xs
  any_kept q [] = refl
  any_kept q (x ∷ xs) = kept_step q x xs (p x) refl (any_kept q xs)

  some_step : (x : X) (xs : List X) (b : Bool) → not (length (filter p xs) == 0) ≡ list_any p xs → not (length (cond b (x ∷ filter p xs) (filter p xs)) == 0) ≡ b || list_any p xs
  some_step x xs true h = grind (arith, nat_tests)
  some_step x xs false h = h

  pub some_in_filter : (xs : List X) → not (length (filter p xs) == 0) ≡ list_any p xs
  some_in_filter [] = refl
  some_in_filter (x ∷ xs) = some_step x xs (p x) (some_in_filter xs)

-- ---- tests that neither or one of two passes

either_step : (a b c u v w : Bool) → w ≡ (u || v) → ((a && (b || c)) || w) ≡ (((a && b) || u) || ((a && c) || v))
either_step false b c u v w e = e
either_step true true c u v w e = refl
either_step true false true true v w e = refl
either_step true false true false v w e = refl
either_step true false false u v w e = e

none_step : (a b u w : Bool) → (b || u) ≡ false → (u ≡ false → w ≡ false) → ((a && b) || w) ≡ false
none_step a true u w h k = absurd (false≢true (sym h))
none_step true false u w h k = k h
none_step false false u w h k = k h

none_any : {X : Type 0} (p : X → Bool) → ((x : X) → p x ≡ false) → (xs : List X) → list_any p xs ≡ false
none_any p h [] = refl
none_any p h (x ∷ xs) = ap (λ b. b || list_any p xs) (h x) ∙ none_any p h xs

module _ {X : Type 0} (p q : X → Bool) where
  pub any_either : (s : X → Bool) (xs : List X) → list_any (λ x. p x && (q x || s x)) xs ≡ (list_any (λ x. p x && q x) xs || list_any (λ x. p x && s x) xs)
  any_either s [] = refl
  any_either s (x ∷ xs) = either_step (p x) (q x) (s x) _ _ _ (any_either s xs)

  none_both : (xs : List X) → list_any q xs ≡ false → list_any (λ x. p x && q x) xs ≡ false
  none_both [] h = refl
  none_both (x ∷ xs) h = none_step (p x) (q x) (list_any q xs) _ h (none_both xs)

-- if no record is of a type, none of these names has a record of the type
pub none_at_names : {N O : Type 0} (rtype : ℕ) (records : List (Record N O)) (names : List (List (List ℕ))) → has_type_among rtype records ≡ false → list_any (λ name. has_type_at rtype name records) names ≡ false
none_at_names rtype records names h =
    none_any (λ name. has_type_at rtype name records) (λ name. none_both (λ r. same_name r.owner name) (λ r. type_of r == rtype) records h) names

-- ---- steps that double

pub reaches_further : (few long twice next : ℕ) → few < long → long < 2 ^ 64 → twice ≡ min (few * 2) (2 ^ 64 - 1) → next ≡ min (twice + 1) (2 ^ 64 - 1) → long - next < long - few
reaches_further few long twice next less fits t n =
    let double : few ≤ min (few * 2) (2 ^ 64 - 1) = le-min (omega arith) (omega (arith, less, fits)) in
    let more : few + 1 ≤ min (twice + 1) (2 ^ 64 - 1) = le-min (omega (arith, double, t)) (omega (arith, less, fits)) in
    omega (arith, more, n, less)

-- ---- the records that a name owns

behind_not : (o : Ordering) → is_le o ≡ false → is_eq o ≡ false
behind_not Less h = refl
behind_not Equal h = cc
behind_not Greater h = refl

module _ {N O : Type 0} (name : List (List ℕ)) where
  abbrev owns : Record N O → Bool
  owns r = same_name r.owner name

  owned_of : (rs : List (Record N O)) (from count : ℕ) → from ≤ length rs → count ≤ length (drop from rs)
      → IsPartitionPoint (λ r. is_lt (name_order r.owner name) ≡ true) (λ r. is_lt (name_order r.owner name) ≡ false) rs from
      → IsPartitionPoint (λ r. is_le (name_order r.owner name) ≡ true) (λ r. is_le (name_order r.owner name) ≡ false) (drop from rs) count
      → take count (drop from rs) ≡ filter owns rs
  owned_of rs from count within few h k =
      sym (filter_front owns (drop from rs) count
      (λ i d low lt. same_is (get_or (drop from rs) i d).owner name
      ∙ is_tied (name_order (get_or (drop from rs) i d).owner name)
      (ap (λ r. is_lt (name_order r.owner name)) (get_or-drop from rs i d) ∙ h.1 (from + i) d (omega arith) (omega (arith, length-drop from rs)))
      (k.0 i d low lt))
      (λ i d low lt. same_is (get_or (drop from rs) i d).owner name ∙ behind_not (name_order (get_or (drop from rs) i d).owner name) (k.1 i d low lt)))
      ∙ filter_behind owns rs from (λ i d low lt. same_is (get_or rs i d).owner name ∙ less_not_tied (name_order (get_or rs i d).owner name) (h.0 i d low lt))

  pub owned_slice : (rs rest : List (Record N O)) (from count : ℕ) → from ≤ length rs → count ≤ length rest → rest ≡ take (length rs - from) (drop from rs)
      → IsPartitionPoint (λ r. is_lt (name_order r.owner name) ≡ true) (λ r. is_lt (name_order r.owner name) ≡ false) rs from
      → IsPartitionPoint (λ r. is_le (name_order r.owner name) ≡ true) (λ r. is_le (name_order r.owner name) ≡ false) rest count
      → take count rest ≡ filter owns rs
  owned_slice rs rest from count within few e h k =
      let whole : rest ≡ drop from rs = e ∙ take_all (length rs - from) (drop from rs) (omega (arith, length-drop from rs)) in
      ap (take count) whole
      ∙ owned_of rs from count within (omega (arith, few, ap length whole)) h
      (subst (λ l. IsPartitionPoint (λ r. is_le (name_order r.owner name) ≡ true) (λ r. is_le (name_order r.owner name) ≡ false) l count) whole k)

  -- the records up to the name, among those from the first of the name on
  pub owned_rest : (rs rest : List (Record N O)) (first count : ℕ) → first ≤ length rs → count ≤ length rest → rest ≡ take (length rs - first) (drop first rs)
      → IsPartitionPoint (λ r. is_lt (name_order r.owner name) ≡ true) (λ r. is_lt (name_order r.owner name) ≡ false) rs first
      → IsPartitionPoint (λ r. is_le (name_order r.owner name) ≡ true) (λ r. is_le (name_order r.owner name) ≡ false) rest count
      → AreOwnedFrom name rs first (first + count)
  owned_rest rs rest first count within few e h k =
      let whole : rest ≡ drop first rs = e ∙ take_all (length rs - first) (drop first rs) (omega (arith, length-drop first rs)) in
      let long : length rest + first ≡ length rs = omega (arith, ap length whole, length-drop first rs, within) in
      let point = subst (λ l. IsPartitionPoint (λ r. is_le (name_order r.owner name) ≡ true) (λ r. is_le (name_order r.owner name) ≡ false) l count) whole k in
      record {
        parts = h;
        bound = omega (arith, few, long);
        before = λ i d low lt. same_is (get_or rs i d).owner name ∙ less_not_tied (name_order (get_or rs i d).owner name) (h.0 i d low lt);
        owned = λ i d low lt.
            same_is (get_or rs i d).owner name
            ∙ is_tied (name_order (get_or rs i d).owner name) (h.1 i d low (omega (arith, lt, few, long)))
            (ap (λ r. is_le (name_order r.owner name)) (sym (at i d low)) ∙ point.0 (i - first) d (omega arith) (omega (arith, low, lt)));
        after = λ i d low lt.
            same_is (get_or rs i d).owner name
            ∙ behind_not (name_order (get_or rs i d).owner name)
            (ap (λ r. is_le (name_order r.owner name)) (sym (at i d (omega (arith, low)))) ∙ point.1 (i - first) d (omega (arith, low)) (omega (arith, low, lt, length-drop first rs)));
      }
    where
      at : (i : ℕ) (d : Record N O) → first ≤ i → get_or (drop first rs) (i - first) d ≡ get_or rs i d
      at i d low = let e : first + (i - first) ≡ i = omega (arith, low) in get_or-drop first rs (i - first) d ∙ ap (λ j. get_or rs j d) e

  pub owned_places : (rs : List (Record N O)) (first past : ℕ) → past ≤ length rs
      → IsPartitionPoint (λ r. is_lt (name_order r.owner name) ≡ true) (λ r. is_lt (name_order r.owner name) ≡ false) rs first
      → IsPartitionPoint (λ r. is_le (name_order r.owner name) ≡ true) (λ r. is_le (name_order r.owner name) ≡ false) rs past
      → AreOwnedFrom name rs first past
  owned_places rs first past bound h k = record {
    parts = h;
    bound = bound;
    before = λ i d low lt. same_is (get_or rs i d).owner name ∙ less_not_tied (name_order (get_or rs i d).owner name) (h.0 i d low lt);
    owned = λ i d low lt. same_is (get_or rs i d).owner name ∙ is_tied (name_order (get_or rs i d).owner name) (h.1 i d low (omega (arith, lt, bound))) (k.0 i d (omega arith) lt);
    after = λ i d low lt. same_is (get_or rs i d).owner name ∙ behind_not (name_order (get_or rs i d).owner name) (k.1 i d low lt);
  }

  pub front_parted : (rs : List (Record N O)) (few : ℕ) → IsPartitionedBy (λ r. is_le (name_order r.owner name)) rs → few ≤ length rs → IsPartitionedBy (λ r. is_le (name_order r.owner name)) (take few rs)
  front_parted rs few parted within i j d le lt t =
      let less : j < few = omega (arith, lt, length-take-le few rs within) in
      ap (λ r. is_le (name_order r.owner name)) (get_or-take few rs i d (omega (arith, le, less)))
      ∙ parted i j d le (omega (arith, less, within)) (ap (λ r. is_le (name_order r.owner name)) (sym (get_or-take few rs j d less)) ∙ t)

  -- the point after the elements that pass is the same in a prefix as in the whole list, unless the element after the prefix passes too
  pub front_point : (rs : List (Record N O)) (few count : ℕ) → IsPartitionedBy (λ r. is_le (name_order r.owner name)) rs → few ≤ length rs → count ≤ length (take few rs)
      → ((d : Record N O) → few < length rs → is_le (name_order (get_or rs few d).owner name) ≡ false)
      → IsPartitionPoint (λ r. is_le (name_order r.owner name) ≡ true) (λ r. is_le (name_order r.owner name) ≡ false) (take few rs) count
      → IsPartitionPoint (λ r. is_le (name_order r.owner name) ≡ true) (λ r. is_le (name_order r.owner name) ≡ false) rs count
  front_point rs few count parted within bound ends point =
      let long : length (take few rs) ≡ few = length-take-le few rs within in (
        λ i d low lt. ap (λ r. is_le (name_order r.owner name)) (sym (get_or-take few rs i d (omega (arith, lt, bound, long)))) ∙ point.0 i d low lt,
        λ i d low lt. behind i d low lt (cases_lt i few),
      )
    where
      decided : (b c : Bool) → (b ≡ true → c ≡ true) → c ≡ false → b ≡ false
      decided true c h e = absurd (false≢true (sym e ∙ h refl))
      decided false c h e = refl

      behind : (i : ℕ) (d : Record N O) → count ≤ i → i < length rs → (i < few) ⊎ (few ≤ i) → is_le (name_order (get_or rs i d).owner name) ≡ false
      behind i d low lt (inl less) =
          ap (λ r. is_le (name_order r.owner name)) (sym (get_or-take few rs i d less)) ∙ point.1 i d low (omega (arith, less, length-take-le few rs within))
      behind i d low lt (inr more) =
          decided (is_le (name_order (get_or rs i d).owner name)) (is_le (name_order (get_or rs few d).owner name)) (parted few i d more lt) (ends d (omega (arith, more, lt)))

  pub rest_parted : (rs : List (Record N O)) (from : ℕ) → AreInOrder rs → IsPartitionedBy (λ r. is_le (name_order r.owner name)) (take (length rs - from) (drop from rs))
  rest_parted rs from h =
      subst (λ l. IsPartitionedBy (λ r. is_le (name_order r.owner name)) l) (sym (take_all (length rs - from) (drop from rs) (omega (arith, length-drop from rs)))) (upto_parted name rs from h)

-- ---- records that are not in order

pub not_in_order : {N O : Type 0} (rs : List (Record N O))
    → (k : ℕ) × (k + 1 < length rs) × ((d : Record N O) → false ≡ is_le (record_order (record_key (get_or rs k d)) (record_key (get_or rs (k + 1) d)))) → AreInOrder rs → false ≡ true
not_in_order [] w h = absurd (omega (arith, w.1))
not_in_order (r ∷ rs) w h = w.2 r ∙ h w.0 r w.1
