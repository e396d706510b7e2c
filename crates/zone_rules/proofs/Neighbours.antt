-- Owners in order: those with the most labels in common with a name are next to it.
use Rattle.std.proofs.Common.{ℕ, zero, suc, ◌≡◌, ◌-◌, ◌<◌, ◌≤◌, ◌⊎◌, inl, inr, Bool, true, false, cond, Option, Some, None, List, [], ◌∷◌, ◌++◌, length, get_or, refl, sym, ap, subst, ◌∙◌, arith, append_assoc, length-append, All}
use Rattle.std.specs.Prelude.{◌==◌, ◌&&◌, ◌||◌, not, if◌then◌else◌, nat_lt, option_and_then, slice_get}
use Rattle.std.specs.Cmp.{both_ways}
use Rattle.std.specs.List.{AllAdjacentBelow, find, list_any}
use Rattle.std.specs.List.Sorted.{IsPartitionPoint}
use Rattle.std.specs.Option.{option_map_or}
use Rattle.std.specs.Ordering.{is_eq, is_lt, is_le}
use Rattle.std.specs.declared.cmp.Ordering.{Ordering}
use Rattle.std.specs.declared.cmp.Ordering.TheVariants.{Less, Equal, Greater}
use Rattle.std.proofs.lemmas.Bool.{cases_lt, false≢true}
use Rattle.std.proofs.lemmas.Bool.Decides.{nat_tests}
use Rattle.std.proofs.lemmas.Cmp.{tied_itself}
use Rattle.std.proofs.lemmas.List.Elements.{All-cons, All-nil, All-head, All-tail}
use Rattle.std.proofs.lemmas.List.Folds.{Any-from_list_any}
use Rattle.std.proofs.lemmas.Option.{slice_get-get_or}
use Rattle.dns_wire.specs.Order.{same_name}
use Rattle.dns_wire.specs.Wire.{wire_length, IsName}
use Rattle.rdata_values.specs.Rtype as Rtype
use Rattle.rdata_tokens.proofs.LabelParts.{wire_length_cons}
use Rattle.zone_record.specs.Names.{name_order}
use Rattle.zone_record.proofs.Orders.{names_total}
use Rattle.zone_record.specs.declared.record.Record.{Record}
use Rattle.zone_rules.specs.Above.{is_below, is_within, names_above}
use Rattle.zone_rules.specs.Present.{closest_dname, is_cut_in, is_listed, is_present, rrset_of_record}
use Rattle.zone_rules.specs.Rules.{is_zone_cut}
use Rattle.zone_rules.specs.Searches.{is_above_earlier, longer_name}
use Rattle.zone_rules.specs.Subjects.{is_parent_below}
use Rattle.zone_rules.specs.Zones.{has_type_at, type_of}
use Rattle.zone_rules.specs.declared.refused.RrsetName.{RrsetName}
use Rattle.zone_rules.proofs.BelowNames.{begins_with_not_before, before_longer, same_is_tied, within_between, within_not_before}
use Rattle.zone_rules.proofs.Lookups.{same_is}
use Rattle.zone_rules.proofs.NameParts.{parent_short}
use Rattle.zone_rules.proofs.SharedNames.{within_cons}
use Rattle.zone_rules.proofs.Within.{owners_parted, upto}

-- ---- tests

passes : (b c : Bool) → (b ≡ true → c ≡ true) → c ≡ false → b ≡ false
passes true c h e = absurd (false≢true (sym e ∙ h refl))
passes false c h e = refl

either : (b c : Bool) → (b || c) ≡ true → (b ≡ true) ⊎ (c ≡ true)
either true c h = inl refl
either false c h = inr h

or_left : (b c : Bool) → b ≡ true → (b || c) ≡ true
or_left true c h = refl
or_left false c h = absurd (false≢true h)

or_right : (b c : Bool) → c ≡ true → (b || c) ≡ true
or_right true c h = refl
or_right false c h = h

and_left : (b c : Bool) → (b && c) ≡ true → b ≡ true
and_left true c h = refl
and_left false c h = absurd (false≢true h)

and_right : (b c : Bool) → (b && c) ≡ true → c ≡ true
and_right true c h = h
and_right false c h = absurd (false≢true h)

and_both : (b c : Bool) → b ≡ true → c ≡ true → (b && c) ≡ true
and_both true c h k = k
and_both false c h k = absurd (false≢true h)

lt_is_le : (o : Ordering) → is_lt o ≡ true → is_le o ≡ true
lt_is_le Less h = refl
lt_is_le Equal h = absurd (false≢true h)
lt_is_le Greater h = absurd (false≢true h)

-- ---- the ancestors of a name

-- an ancestor of a name: the name has more labels before it
pub record IsAbove (name above : List (List ℕ)) : Type 0 where
  pub within : is_within name above ≡ true
  pub before : is_lt (name_order above name) ≡ true
  pub some : 0 < length above

same_itself : (a : List (List ℕ)) → same_name a a ≡ true
same_itself a = same_is a a ∙ ap is_eq (tied_itself names_total a)

pub within_more : (label : List ℕ) (labels above : List (List ℕ)) → 0 < length above → is_within labels above ≡ true → is_within (label ∷ labels) above ≡ true
within_more label labels above some h = within_cons label labels above some ∙ or_right (same_name (label ∷ labels) above) (is_within labels above) h

within_itself : (a : List (List ℕ)) → is_within a a ≡ true
within_itself a = or_left (same_name a a) (is_below a a) (same_itself a)

within_suffix : (front end : List (List ℕ)) → 0 < length end → is_within (front ++ end) end ≡ true
within_suffix [] end some = within_itself end
within_suffix (x ∷ xs) end some = within_more x (xs ++ end) end some (within_suffix xs end some)

ends : (front end : List (List ℕ)) → 0 < length front → 0 < length end → IsAbove (front ++ end) end
ends front end lt some = record { within = within_suffix front end some; before = before_longer front end lt; some = some }

pub above_all : (P : List (List ℕ) → Type 0) (name : List (List ℕ)) → ((above : List (List ℕ)) → IsAbove name above → P above) → All P (names_above name)
above_all P name h = by [] name (λ a w. h a w)
  where
    by : (front rest : List (List ℕ)) → ((above : List (List ℕ)) → IsAbove (front ++ rest) above → P above) → All P (names_above rest)
    by front [] h = All-nil P
    by front (l ∷ []) h = All-nil P
    by front (l ∷ n ∷ o) h =
        let assoc : (front ++ l ∷ []) ++ n ∷ o ≡ front ++ l ∷ n ∷ o = append_assoc front (l ∷ []) (n ∷ o) in
        All-cons P (n ∷ o) (names_above (n ∷ o))
        (h (n ∷ o) (subst (λ a. IsAbove a (n ∷ o)) assoc (ends (front ++ l ∷ []) (n ∷ o) (omega (arith, length-append front (l ∷ []))) (omega arith))))
        (by (front ++ l ∷ []) (n ∷ o) (λ a w. h a (subst (λ x. IsAbove x a) assoc w)))

-- tests that agree at the ancestors of a name find the same one
find_all : (f g : List (List ℕ) → Bool) (xs : List (List (List ℕ))) → All (λ x. f x ≡ g x) xs → find f xs ≡ find g xs
find_all f g [] h = refl
find_all f g (x ∷ xs) h =
    λ i. cond (All-head (λ x. f x ≡ g x) x xs h i) (Some x) (find_all f g xs (All-tail (λ x. f x ≡ g x) x xs h) i)

pub find_above : (f g : List (List ℕ) → Bool) (name : List (List ℕ)) → ((above : List (List ℕ)) → IsAbove name above → f above ≡ g above) → find f (names_above name) ≡ find g (names_above name)
find_above f g name h = find_all f g (names_above name) (above_all (λ x. f x ≡ g x) name h)

find_nothing : (xs : List (List (List ℕ))) → find (λ _. false) xs ≡ None
find_nothing [] = refl
find_nothing (x ∷ xs) = find_nothing xs

-- an ancestor that is found is shorter than the name
pub found_shorter : (f : List (List ℕ) → Bool) (name above : List (List ℕ)) → find f (names_above name) ≡ Some above → wire_length above < wire_length name
found_shorter f [] above h = cc
found_shorter f (l ∷ []) above h = cc
found_shorter f (l ∷ n ∷ o) above h = by (f (n ∷ o)) (found_shorter f (n ∷ o) above) h
  where
    by : (b : Bool) → (find f (names_above (n ∷ o)) ≡ Some above → wire_length above < wire_length (n ∷ o)) → cond b (Some (n ∷ o)) (find f (names_above (n ∷ o))) ≡ Some above → wire_length above < wire_length (l ∷ n ∷ o)
    by true more e = let is : n ∷ o ≡ above = cc in omega (arith, wire_length_cons l (n ∷ o), ap wire_length is)
    by false more e = let lt = more e in omega (arith, lt, wire_length_cons l (n ∷ o))

pub found_fewer : (f : List (List ℕ) → Bool) (name above : List (List ℕ)) → find f (names_above name) ≡ Some above → length above < length name
found_fewer f [] above h = cc
found_fewer f (l ∷ []) above h = cc
found_fewer f (l ∷ n ∷ o) above h = by (f (n ∷ o)) (found_fewer f (n ∷ o) above) h
  where
    by : (b : Bool) → (find f (names_above (n ∷ o)) ≡ Some above → length above < length (n ∷ o)) → cond b (Some (n ∷ o)) (find f (names_above (n ∷ o))) ≡ Some above → length above < length (l ∷ n ∷ o)
    by true more e = let is : n ∷ o ≡ above = cc in omega (arith, ap length is)
    by false more e = let lt = more e in omega (arith, lt)

-- ---- the first of two tests that passes

module _ (p q : List (List ℕ) → Bool) where
  first_of : (name : List (List ℕ)) (others : List (List (List ℕ))) (b c : Bool)
      → ((above : List (List ℕ)) → find p others ≡ Some above → wire_length above < wire_length name)
      → ((above : List (List ℕ)) → find q others ≡ Some above → wire_length above < wire_length name)
      → find (λ a. p a || q a) others ≡ longer_name (find p others) (find q others)
      → cond (b || c) (Some name) (find (λ a. p a || q a) others) ≡ longer_name (cond b (Some name) (find p others)) (cond c (Some name) (find q others))
  first_of name others false false u v e = e
  first_of name others true true u v e = sym (ap (λ t. if t then Some name else Some name) (not_longer (wire_length name) (wire_length name) (omega arith)))
    where
      not_longer : (m n : ℕ) → n ≤ m → nat_lt m n ≡ false
      not_longer m n h = grind (arith, nat_tests)
  first_of name others true false u v e = by (find q others) refl
    where
      not_longer : (m n : ℕ) → n ≤ m → nat_lt m n ≡ false
      not_longer m n h = grind (arith, nat_tests)

      by : (o : Option (List (List ℕ))) → find q others ≡ o → Some name ≡ longer_name (Some name) o
      by None k = refl
      by (Some above) k = let lt = v above k in sym (ap (λ t. if t then Some above else Some name) (not_longer (wire_length name) (wire_length above) (omega (arith, lt))))
  first_of name others false true u v e = by (find p others) refl
    where
      longer_is : (m n : ℕ) → m < n → nat_lt m n ≡ true
      longer_is m n h = grind (arith, nat_tests)

      by : (o : Option (List (List ℕ))) → find p others ≡ o → Some name ≡ longer_name o (Some name)
      by None k = refl
      by (Some above) k = let lt = u above k in sym (ap (λ t. if t then Some name else Some above) (longer_is (wire_length above) (wire_length name) lt))

  pub find_either_above : (name : List (List ℕ)) → find (λ a. p a || q a) (names_above name) ≡ longer_name (find p (names_above name)) (find q (names_above name))
  find_either_above [] = refl
  find_either_above (l ∷ []) = refl
  find_either_above (l ∷ n ∷ o) =
      first_of (n ∷ o) (names_above (n ∷ o)) (p (n ∷ o)) (q (n ∷ o)) (found_shorter p (n ∷ o)) (found_shorter q (n ∷ o)) (find_either_above (n ∷ o))

  pub find_either : (name : List (List ℕ)) → find (λ a. p a || q a) (name ∷ names_above name) ≡ longer_name (find p (name ∷ names_above name)) (find q (name ∷ names_above name))
  find_either name = first_of name (names_above name) (p name) (q name) (found_shorter p name) (found_shorter q name) (find_either_above name)

-- ---- an element at an index

slice_at : {X : Type 0} (xs : List X) (k : ℕ) (x : X) → slice_get xs k ≡ Some x → get_or xs k x ≡ x
slice_at [] k x h = refl
slice_at (y ∷ ys) zero x h = cc
slice_at (y ∷ ys) (suc k) x h = slice_at ys k x h

at_true : {X : Type 0} (p : X → Bool) (xs : List X) (k : ℕ) → option_map_or p (slice_get xs k) false ≡ true → list_any p xs ≡ true
at_true p [] k h = absurd (false≢true h)
at_true p (x ∷ xs) zero h = or_left (p x) (list_any p xs) h
at_true p (x ∷ xs) (suc k) h = or_right (p x) (list_any p xs) (at_true p xs k h)

at_both : {X : Type 0} (p q : X → Bool) (xs : List X) (k : ℕ) → ((d : X) → q (get_or xs k d) ≡ true) → option_map_or p (slice_get xs k) false ≡ true → list_any (λ x. q x && p x) xs ≡ true
at_both p q [] k e h = absurd (false≢true h)
at_both p q (x ∷ xs) zero e h = or_left (q x && p x) (list_any (λ x. q x && p x) xs) (and_both (q x) (p x) (e x) h)
at_both p q (x ∷ xs) (suc k) e h = or_right (q x && p x) (list_any (λ x. q x && p x) xs) (at_both p q xs k e h)

suc_not : (k : ℕ) → (suc k == 0) ≡ false
suc_not k = grind (arith, nat_tests)

-- ---- owners in order

module _ {X : Type 0} (rrset : X → RrsetName) (xs : List X) (order : AllAdjacentBelow (λ a b. is_le (name_order (rrset a).owner (rrset b).owner) ≡ true) xs (length xs)) (name : List (List ℕ)) where
  abbrev IsPlace : ℕ → Type 0
  IsPlace place = IsPartitionPoint (λ x. is_lt (name_order (rrset x).owner name) ≡ true) (λ x. is_lt (name_order (rrset x).owner name) ≡ false) xs place

  abbrev reaches : List (List ℕ) → X → Bool
  reaches above x = is_within (rrset x).owner above

  not_less : (above : List (List ℕ)) → 0 < length above → (x : X) → reaches above x ≡ true → is_lt (name_order (rrset x).owner above) ≡ false
  not_less above some x h = by (is_lt (name_order (rrset x).owner above)) refl
    where
      by : (b : Bool) → is_lt (name_order (rrset x).owner above) ≡ b → b ≡ false
      by true e = absurd (false≢true (sym (within_not_before (rrset x).owner above some e) ∙ h))
      by false e = refl

  earlier_reaches : (above : List (List ℕ)) → is_within name above ≡ true → 0 < length above → (k i : ℕ) (d : X) → IsPlace (suc k) → k < length xs → i < suc k → reaches above (get_or xs i d) ≡ true → reaches above (get_or xs k d) ≡ true
  earlier_reaches above in_name some k i d point lt low h =
      within_between (rrset (get_or xs k d)).owner name above some
      (passes (is_lt (name_order (rrset (get_or xs k d)).owner above)) (is_lt (name_order (rrset (get_or xs i d)).owner above))
      (owners_parted (λ x. (rrset x).owner) above xs order i k d (omega (arith, low)) lt)
      (not_less above some (get_or xs i d) h))
      (lt_is_le (name_order (rrset (get_or xs k d)).owner name) (point.0 k d (omega arith) (omega arith)))
      in_name

  later_reaches : (above : List (List ℕ)) → is_within name above ≡ true → 0 < length above → (place i : ℕ) (d : X) → IsPlace place → place ≤ i → i < length xs → reaches above (get_or xs i d) ≡ true → reaches above (get_or xs place d) ≡ true
  later_reaches above in_name some place i d point low lt h =
      within_between (rrset (get_or xs place d)).owner (rrset (get_or xs i d)).owner above some
      (begins_with_not_before name (rrset (get_or xs place d)).owner above some in_name (point.1 place d (omega arith) (omega (arith, low, lt))))
      (upto (λ x. (rrset x).owner) (rrset (get_or xs i d)).owner xs order place i d low lt (ap is_le (tied_itself names_total (rrset (get_or xs i d)).owner)))
      h

  abbrev before : ℕ → Option X
  before place = if place == 0 then None else slice_get xs (place - 1)

  before_suc : (k : ℕ) → before (suc k) ≡ slice_get xs (suc k - 1)
  before_suc k = ap (λ b. if b then None else slice_get xs (suc k - 1)) (suc_not k)

  -- the last owner before the name is within an ancestor if any of the owners before it is
  earlier_found : (above : List (List ℕ)) → is_within name above ≡ true → 0 < length above → (place i : ℕ) (d : X) → IsPlace place → place ≤ length xs → i < place → reaches above (get_or xs i d) ≡ true
      → option_map_or (reaches above) (before place) false ≡ true
  earlier_found above in_name some zero i d point bound low h = absurd (omega (arith, low))
  earlier_found above in_name some (suc k) i d point bound low h =
      let lt : k < length xs = omega (arith, bound) in
      let at : slice_get xs (suc k - 1) ≡ Some (get_or xs k d) = ap (slice_get xs) (omega arith) ∙ slice_get-get_or xs k d lt in
      ap (λ o. option_map_or (reaches above) o false) (before_suc k ∙ at) ∙ earlier_reaches above in_name some k i d point lt low h

  later_found : (above : List (List ℕ)) → is_within name above ≡ true → 0 < length above → (place i : ℕ) (d : X) → IsPlace place → place ≤ i → i < length xs → reaches above (get_or xs i d) ≡ true
      → option_map_or (reaches above) (slice_get xs place) false ≡ true
  later_found above in_name some place i d point low lt h =
      ap (λ o. option_map_or (reaches above) o false) (slice_get-get_or xs place d (omega (arith, low, lt))) ∙ later_reaches above in_name some place i d point low lt h

  before_back : (above : List (List ℕ)) (place : ℕ) → option_map_or (reaches above) (before place) false ≡ true → list_any (reaches above) xs ≡ true
  before_back above zero h = absurd (false≢true h)
  before_back above (suc k) h = at_true (reaches above) xs (suc k - 1) (ap (λ o. option_map_or (reaches above) o false) (sym (before_suc k)) ∙ h)

  -- an owner is within an ancestor if and only if one of the two next to the name's index is
  beside : (above : List (List ℕ)) → is_within name above ≡ true → 0 < length above → (place : ℕ) → IsPlace place → place ≤ length xs
      → list_any (reaches above) xs ≡ (option_map_or (reaches above) (before place) false || option_map_or (reaches above) (slice_get xs place) false)
  beside above in_name some place point bound = both_ways _ _ forth back
    where
      forth : list_any (reaches above) xs ≡ true → (option_map_or (reaches above) (before place) false || option_map_or (reaches above) (slice_get xs place) false) ≡ true
      forth h =
          let a = Any-from_list_any (reaches above) xs h in
          let t : reaches above (get_or xs a.0 a.1) ≡ true = subst (λ x. reaches above x ≡ true) (sym a.3) a.4 in
          by a.0 a.1 a.2 t (cases_lt a.0 place)
        where
          by : (i : ℕ) (d : X) → i < length xs → reaches above (get_or xs i d) ≡ true → (i < place) ⊎ (place ≤ i)
              → (option_map_or (reaches above) (before place) false || option_map_or (reaches above) (slice_get xs place) false) ≡ true
          by i d lt t (inl low) = or_left (option_map_or (reaches above) (before place) false) (option_map_or (reaches above) (slice_get xs place) false) (earlier_found above in_name some place i d point bound low t)
          by i d lt t (inr high) = or_right (option_map_or (reaches above) (before place) false) (option_map_or (reaches above) (slice_get xs place) false) (later_found above in_name some place i d point high lt t)

      back : (option_map_or (reaches above) (before place) false || option_map_or (reaches above) (slice_get xs place) false) ≡ true → list_any (reaches above) xs ≡ true
      back h = by (either (option_map_or (reaches above) (before place) false) (option_map_or (reaches above) (slice_get xs place) false) h)
        where
          by : (option_map_or (reaches above) (before place) false ≡ true) ⊎ (option_map_or (reaches above) (slice_get xs place) false ≡ true) → list_any (reaches above) xs ≡ true
          by (inl k) = before_back above place k
          by (inr k) = at_true (reaches above) xs place k

  abbrev test : List (List ℕ) → X → Bool
  test above x = is_lt (name_order (rrset x).owner name) && reaches above x

  -- an owner before the name is within an ancestor if and only if the last owner before it is
  before_at : (above : List (List ℕ)) → is_within name above ≡ true → 0 < length above → (place : ℕ) → IsPlace place → place ≤ length xs
      → is_above_earlier rrset xs name above ≡ option_map_or (reaches above) (before place) false
  before_at above in_name some place point bound = both_ways _ _ forth (back place point)
    where
      forth : list_any (test above) xs ≡ true → option_map_or (reaches above) (before place) false ≡ true
      forth h =
          let a = Any-from_list_any (test above) xs h in
          let t : test above (get_or xs a.0 a.1) ≡ true = subst (λ x. test above x ≡ true) (sym a.3) a.4 in
          by a.0 a.1 a.2 (and_left (is_lt (name_order (rrset (get_or xs a.0 a.1)).owner name)) (reaches above (get_or xs a.0 a.1)) t)
          (and_right (is_lt (name_order (rrset (get_or xs a.0 a.1)).owner name)) (reaches above (get_or xs a.0 a.1)) t) (cases_lt a.0 place)
        where
          by : (i : ℕ) (d : X) → i < length xs → is_lt (name_order (rrset (get_or xs i d)).owner name) ≡ true → reaches above (get_or xs i d) ≡ true → (i < place) ⊎ (place ≤ i)
              → option_map_or (reaches above) (before place) false ≡ true
          by i d lt less t (inl low) = earlier_found above in_name some place i d point bound low t
          by i d lt less t (inr high) = absurd (false≢true (sym (point.1 i d high lt) ∙ less))

      back : (place : ℕ) → IsPlace place → option_map_or (reaches above) (before place) false ≡ true → list_any (test above) xs ≡ true
      back zero point h = absurd (false≢true h)
      back (suc k) point h =
          at_both (reaches above) (λ x. is_lt (name_order (rrset x).owner name)) xs (suc k - 1) (λ d. point.0 (suc k - 1) d (omega arith) (omega arith)) (ap (λ o. option_map_or (reaches above) o false) (sym (before_suc k)) ∙ h)

  abbrev pub shared : Option X → Option (List (List ℕ))
  shared = option_and_then (λ x. find (is_within (rrset x).owner) (name ∷ names_above name))

  shared_is : (o : Option X) → shared o ≡ find (λ above. option_map_or (reaches above) o false) (name ∷ names_above name)
  shared_is None = sym (find_nothing (name ∷ names_above name))
  shared_is (Some x) = refl

  none_here : 0 < length name → (place : ℕ) → IsPlace place → option_map_or (reaches name) (before place) false ≡ false
  none_here some zero point = refl
  none_here some (suc k) point = ap (λ o. option_map_or (reaches name) o false) (before_suc k) ∙ by (slice_get xs (suc k - 1)) refl
    where
      by : (o : Option X) → slice_get xs (suc k - 1) ≡ o → option_map_or (reaches name) o false ≡ false
      by None e = refl
      by (Some x) e =
          within_not_before (rrset x).owner name some
          (ap (λ y. is_lt (name_order (rrset y).owner name)) (sym (slice_at xs (suc k - 1) x e)) ∙ point.0 (suc k - 1) x (omega arith) (omega arith))

  pub shared_before : 0 < length name → (place : ℕ) → IsPlace place → place ≤ length xs → shared (before place) ≡ find (is_above_earlier rrset xs name) (names_above name)
  shared_before some place point bound =
      shared_is (before place)
      ∙ ap (λ b. cond b (Some name) (find (λ above. option_map_or (reaches above) (before place) false) (names_above name))) (none_here some place point)
      ∙ sym (find_above (is_above_earlier rrset xs name) (λ above. option_map_or (reaches above) (before place) false) name (λ above w. before_at above w.within w.some place point bound))

  pub closest_is : 0 < length name → (place : ℕ) → IsPlace place → place ≤ length xs → longer_name (shared (before place)) (shared (slice_get xs place)) ≡ find (λ above. list_any (reaches above) xs) (name ∷ names_above name)
  closest_is some place point bound =
      (λ i. longer_name (shared_is (before place) i) (shared_is (slice_get xs place) i))
      ∙ sym (find_either (λ above. option_map_or (reaches above) (before place) false) (λ above. option_map_or (reaches above) (slice_get xs place) false) name)
      ∙ (λ i. cond (sym (beside name (within_itself name) some place point bound) i) (Some name)
      (find_above (λ above. option_map_or (reaches above) (before place) false || option_map_or (reaches above) (slice_get xs place) false) (λ above. list_any (reaches above) xs) name
      (λ above w. sym (beside above w.within w.some place point bound)) i))

-- ---- walks up from owner to owner

any_from : (f : List (List ℕ) → Bool) (xs : List (List (List ℕ))) → All (λ a. f a ≡ false) xs → list_any f xs ≡ false
any_from f [] h = refl
any_from f (x ∷ xs) h = λ i. All-head (λ a. f a ≡ false) x xs h i || any_from f xs (All-tail (λ a. f a ≡ false) x xs h) i

-- if only names that pass a second test pass the first, the search may begin at the closest one that passes the second
any_closest : (f g : List (List ℕ) → Bool) (name : List (List ℕ)) → All (λ a. f a ≡ true → g a ≡ true) (names_above name)
    → list_any f (names_above name) ≡ option_map_or (λ a. f a || list_any f (names_above a)) (find g (names_above name)) false
any_closest f g [] h = refl
any_closest f g (l ∷ []) h = refl
any_closest f g (l ∷ n ∷ o) h =
    by (g (n ∷ o)) (All-head (λ a. f a ≡ true → g a ≡ true) (n ∷ o) (names_above (n ∷ o)) h) (any_closest f g (n ∷ o) (All-tail (λ a. f a ≡ true → g a ≡ true) (n ∷ o) (names_above (n ∷ o)) h))
  where
    none : (b : Bool) → (b ≡ true → false ≡ true) → b ≡ false
    none true k = absurd (false≢true (k refl))
    none false k = refl

    by : (b : Bool) → (f (n ∷ o) ≡ true → b ≡ true)
        → list_any f (names_above (n ∷ o)) ≡ option_map_or (λ a. f a || list_any f (names_above a)) (find g (names_above (n ∷ o))) false
        → (f (n ∷ o) || list_any f (names_above (n ∷ o))) ≡ option_map_or (λ a. f a || list_any f (names_above a)) (cond b (Some (n ∷ o)) (find g (names_above (n ∷ o)))) false
    by true k more = refl
    by false k more = ap (λ b. b || list_any f (names_above (n ∷ o))) (none (f (n ∷ o)) k) ∙ more

-- the closest name that passes the first test is that one, or an ancestor of it
find_closest : (f g : List (List ℕ) → Bool) (name : List (List ℕ)) → All (λ a. f a ≡ true → g a ≡ true) (names_above name)
    → find f (names_above name) ≡ option_and_then (λ a. cond (f a) (Some a) (find f (names_above a))) (find g (names_above name))
find_closest f g [] h = refl
find_closest f g (l ∷ []) h = refl
find_closest f g (l ∷ n ∷ o) h =
    by (g (n ∷ o)) (All-head (λ a. f a ≡ true → g a ≡ true) (n ∷ o) (names_above (n ∷ o)) h) (find_closest f g (n ∷ o) (All-tail (λ a. f a ≡ true → g a ≡ true) (n ∷ o) (names_above (n ∷ o)) h))
  where
    none : (b : Bool) → (b ≡ true → false ≡ true) → b ≡ false
    none true k = absurd (false≢true (k refl))
    none false k = refl

    by : (b : Bool) → (f (n ∷ o) ≡ true → b ≡ true)
        → find f (names_above (n ∷ o)) ≡ option_and_then (λ a. cond (f a) (Some a) (find f (names_above a))) (find g (names_above (n ∷ o)))
        → cond (f (n ∷ o)) (Some (n ∷ o)) (find f (names_above (n ∷ o))) ≡ option_and_then (λ a. cond (f a) (Some a) (find f (names_above a))) (cond b (Some (n ∷ o)) (find g (names_above (n ∷ o))))
    by true k more = refl
    by false k more = ap (λ b. cond b (Some (n ∷ o)) (find f (names_above (n ∷ o)))) (none (f (n ∷ o)) k) ∙ more

-- an owner that is an ancestor of a name comes before the name, and is within itself
owner_reaches : {X : Type 0} (rrset : X → RrsetName) (t : X → Bool) (xs : List X) (name above : List (List ℕ)) → IsAbove name above → list_any (λ x. same_name (rrset x).owner above && t x) xs ≡ true → is_above_earlier rrset xs name above ≡ true
owner_reaches rrset t [] name above w h = absurd (false≢true h)
owner_reaches rrset t (x ∷ xs) name above w h =
    by (either (same_name (rrset x).owner above && t x) (list_any (λ y. same_name (rrset y).owner above && t y) xs) h) (owner_reaches rrset t xs name above w)
  where
    by : ((same_name (rrset x).owner above && t x) ≡ true) ⊎ (list_any (λ y. same_name (rrset y).owner above && t y) xs ≡ true)
        → (list_any (λ y. same_name (rrset y).owner above && t y) xs ≡ true → is_above_earlier rrset xs name above ≡ true) → is_above_earlier rrset (x ∷ xs) name above ≡ true
    by (inl k) more =
        let same = and_left (same_name (rrset x).owner above) (t x) k in
        or_left (is_lt (name_order (rrset x).owner name) && is_within (rrset x).owner above) (is_above_earlier rrset xs name above)
        (and_both (is_lt (name_order (rrset x).owner name)) (is_within (rrset x).owner above) (ap is_lt (same_is_tied (rrset x).owner above name same) ∙ w.before) (or_left (same_name (rrset x).owner above) (is_below (rrset x).owner above) same))
    by (inr k) more = or_right (is_lt (name_order (rrset x).owner name) && is_within (rrset x).owner above) (is_above_earlier rrset xs name above) (more k)

-- the walk from owner to owner, over some items
pub walk_one : {X : Type 0} (rrset : X → RrsetName) (xs : List X) (f : List (List ℕ) → Bool) (name : List (List ℕ))
    → ((above : List (List ℕ)) → f above ≡ true → (t : X → Bool) × (list_any (λ x. same_name (rrset x).owner above && t x) xs ≡ true))
    → list_any f (names_above name) ≡ option_map_or (λ a. f a || list_any f (names_above a)) (find (is_above_earlier rrset xs name) (names_above name)) false
walk_one rrset xs f name h =
    any_closest f (is_above_earlier rrset xs name) name (above_all (λ a. f a ≡ true → is_above_earlier rrset xs name a ≡ true) name (λ above w e. let o = h above e in owner_reaches rrset o.0 xs name above w o.1))

-- and over items of two kinds
owners_of_two : {X Y : Type 0} (rrset : X → RrsetName) (xs : List X) (other : Y → RrsetName) (ys : List Y) (f : List (List ℕ) → Bool) (name : List (List ℕ))
    → (t : X → Bool) (u : Y → Bool)
    → ((above : List (List ℕ)) → f above ≡ true → (list_any (λ x. same_name (rrset x).owner above && t x) xs || list_any (λ y. same_name (other y).owner above && u y) ys) ≡ true)
    → All (λ a. f a ≡ true → (is_above_earlier rrset xs name a || is_above_earlier other ys name a) ≡ true) (names_above name)
owners_of_two rrset xs other ys f name t u h =
    above_all (λ a. f a ≡ true → (is_above_earlier rrset xs name a || is_above_earlier other ys name a) ≡ true) name
    (λ above w e. by above w (either (list_any (λ x. same_name (rrset x).owner above && t x) xs) (list_any (λ y. same_name (other y).owner above && u y) ys) (h above e)))
  where
    by : (above : List (List ℕ)) → IsAbove name above → (list_any (λ x. same_name (rrset x).owner above && t x) xs ≡ true) ⊎ (list_any (λ y. same_name (other y).owner above && u y) ys ≡ true)
        → (is_above_earlier rrset xs name above || is_above_earlier other ys name above) ≡ true
    by above w (inl k) = or_left (is_above_earlier rrset xs name above) (is_above_earlier other ys name above) (owner_reaches rrset t xs name above w k)
    by above w (inr k) = or_right (is_above_earlier rrset xs name above) (is_above_earlier other ys name above) (owner_reaches other u ys name above w k)

module _ {N O : Type 0} (records : List (Record N O)) (refused : List RrsetName) (name : List (List ℕ)) where
  abbrev pub is_at_owner : List (List ℕ) → Bool
  is_at_owner above = is_above_earlier rrset_of_record records name above || is_above_earlier (λ s. s) refused name above

  present_owners : (rtype : ℕ) (f : List (List ℕ) → Bool) → ((above : List (List ℕ)) → f above ≡ true → is_present rtype above records refused ≡ true)
      → All (λ a. f a ≡ true → is_at_owner a ≡ true) (names_above name)
  present_owners rtype f h = owners_of_two rrset_of_record records (λ s. s) refused f name (λ r. type_of r == rtype) (λ s. s.rtype == rtype) h

  pub cuts_above : (origin : List (List ℕ))
      → list_any (is_cut_in origin records refused) (names_above name)
      ≡ option_map_or (λ a. is_cut_in origin records refused a || list_any (is_cut_in origin records refused) (names_above a)) (find is_at_owner (names_above name)) false
  cuts_above origin =
      any_closest (is_cut_in origin records refused) is_at_owner name
      (present_owners Rtype.ns (is_cut_in origin records refused) (λ above e. and_right (is_below above origin) (is_present Rtype.ns above records refused) e))

  pub dnames_above : closest_dname name records refused
      ≡ option_and_then (λ a. cond (is_present Rtype.dname a records refused) (Some a) (closest_dname a records refused)) (find is_at_owner (names_above name))
  dnames_above = find_closest (λ a. is_present Rtype.dname a records refused) is_at_owner name (present_owners Rtype.dname (λ a. is_present Rtype.dname a records refused) (λ above e. e))

-- of a type among the records
module _ {N O : Type 0} (records : List (Record N O)) (name : List (List ℕ)) where
  zone_cuts_above : (origin : List (List ℕ))
      → list_any (is_zone_cut origin records) (names_above name)
      ≡ option_map_or (λ a. is_zone_cut origin records a || list_any (is_zone_cut origin records) (names_above a)) (find (is_above_earlier rrset_of_record records name) (names_above name)) false
  zone_cuts_above origin =
      walk_one rrset_of_record records (is_zone_cut origin records) name (λ above e. ((λ r. type_of r == Rtype.ns), and_right (is_below above origin) (has_type_at Rtype.ns above records) e))

  pub zone_cuts_some : (origin above : List (List ℕ)) → find (is_above_earlier rrset_of_record records name) (names_above name) ≡ Some above
      → list_any (is_zone_cut origin records) (names_above name) ≡ (is_zone_cut origin records above || list_any (is_zone_cut origin records) (names_above above))
  zone_cuts_some origin above h =
      zone_cuts_above origin ∙ ap (λ o. option_map_or (λ a. is_zone_cut origin records a || list_any (is_zone_cut origin records) (names_above a)) o false) h

  pub zone_cuts_none : (origin : List (List ℕ)) → find (is_above_earlier rrset_of_record records name) (names_above name) ≡ None → list_any (is_zone_cut origin records) (names_above name) ≡ false
  zone_cuts_none origin h =
      zone_cuts_above origin ∙ ap (λ o. option_map_or (λ a. is_zone_cut origin records a || list_any (is_zone_cut origin records) (names_above a)) o false) h

  record_dnames_above : list_any (λ a. has_type_at Rtype.dname a records) (names_above name)
      ≡ option_map_or (λ a. has_type_at Rtype.dname a records || list_any (λ b. has_type_at Rtype.dname b records) (names_above a)) (find (is_above_earlier rrset_of_record records name) (names_above name)) false
  record_dnames_above = walk_one rrset_of_record records (λ a. has_type_at Rtype.dname a records) name (λ above e. ((λ r. type_of r == Rtype.dname), e))

  pub dnames_some : (above : List (List ℕ)) → find (is_above_earlier rrset_of_record records name) (names_above name) ≡ Some above
      → list_any (λ b. has_type_at Rtype.dname b records) (names_above name) ≡ (has_type_at Rtype.dname above records || list_any (λ b. has_type_at Rtype.dname b records) (names_above above))
  dnames_some above h = record_dnames_above ∙ ap (λ o. option_map_or (λ a. has_type_at Rtype.dname a records || list_any (λ b. has_type_at Rtype.dname b records) (names_above a)) o false) h

  pub dnames_none : find (is_above_earlier rrset_of_record records name) (names_above name) ≡ None → list_any (λ b. has_type_at Rtype.dname b records) (names_above name) ≡ false
  dnames_none h = record_dnames_above ∙ ap (λ o. option_map_or (λ a. has_type_at Rtype.dname a records || list_any (λ b. has_type_at Rtype.dname b records) (names_above a)) o false) h

-- of a type among the rejected entries
module _ (refused : List RrsetName) (name : List (List ℕ)) where
  listed_dnames_above : list_any (λ a. is_listed Rtype.dname a refused) (names_above name)
      ≡ option_map_or (λ a. is_listed Rtype.dname a refused || list_any (λ b. is_listed Rtype.dname b refused) (names_above a)) (find (is_above_earlier (λ s. s) refused name) (names_above name)) false
  listed_dnames_above = walk_one (λ s. s) refused (λ a. is_listed Rtype.dname a refused) name (λ above e. ((λ s. s.rtype == Rtype.dname), e))

  pub listed_some : (above : List (List ℕ)) → find (is_above_earlier (λ s. s) refused name) (names_above name) ≡ Some above
      → list_any (λ b. is_listed Rtype.dname b refused) (names_above name) ≡ (is_listed Rtype.dname above refused || list_any (λ b. is_listed Rtype.dname b refused) (names_above above))
  listed_some above h = listed_dnames_above ∙ ap (λ o. option_map_or (λ a. is_listed Rtype.dname a refused || list_any (λ b. is_listed Rtype.dname b refused) (names_above a)) o false) h

  pub listed_none : find (is_above_earlier (λ s. s) refused name) (names_above name) ≡ None → list_any (λ b. is_listed Rtype.dname b refused) (names_above name) ≡ false
  listed_none h = listed_dnames_above ∙ ap (λ o. option_map_or (λ a. is_listed Rtype.dname a refused || list_any (λ b. is_listed Rtype.dname b refused) (names_above a)) o false) h

-- of a type among both
module _ {N O : Type 0} (records : List (Record N O)) (refused : List RrsetName) (name : List (List ℕ)) where
  pub cuts_some : (origin above : List (List ℕ)) → find (is_at_owner records refused name) (names_above name) ≡ Some above
      → list_any (is_cut_in origin records refused) (names_above name) ≡ (is_cut_in origin records refused above || list_any (is_cut_in origin records refused) (names_above above))
  cuts_some origin above h =
      cuts_above records refused name origin ∙ ap (λ o. option_map_or (λ a. is_cut_in origin records refused a || list_any (is_cut_in origin records refused) (names_above a)) o false) h

  pub cuts_none : (origin : List (List ℕ)) → find (is_at_owner records refused name) (names_above name) ≡ None → list_any (is_cut_in origin records refused) (names_above name) ≡ false
  cuts_none origin h =
      cuts_above records refused name origin ∙ ap (λ o. option_map_or (λ a. is_cut_in origin records refused a || list_any (is_cut_in origin records refused) (names_above a)) o false) h

  pub dname_some : (above : List (List ℕ)) → find (is_at_owner records refused name) (names_above name) ≡ Some above
      → closest_dname name records refused ≡ cond (is_present Rtype.dname above records refused) (Some above) (closest_dname above records refused)
  dname_some above h = dnames_above records refused name ∙ ap (option_and_then (λ a. cond (is_present Rtype.dname a records refused) (Some a) (closest_dname a records refused))) h

  pub dname_none : find (is_at_owner records refused name) (names_above name) ≡ None → closest_dname name records refused ≡ None
  dname_none h = dnames_above records refused name ∙ ap (option_and_then (λ a. cond (is_present Rtype.dname a records refused) (Some a) (closest_dname a records refused))) h

-- ---- a name whose parent is not below the apex

or_off : (b c : Bool) → (b || c) ≡ false → c ≡ false
or_off true c h = absurd (false≢true (sym h))
or_off false c h = h

parent_off : (origin name : List (List ℕ)) → is_below name origin ≡ false → is_parent_below origin name ≡ false
parent_off origin [] h = refl
parent_off origin (l ∷ []) h = refl
parent_off origin (l ∷ n ∷ o) h = or_off (same_name (n ∷ o) origin) (is_below (n ∷ o) origin) h

-- none of its ancestors is below the apex and passes a test
none_above : (test : List (List ℕ) → Bool) (origin name : List (List ℕ)) → is_parent_below origin name ≡ false → list_any (λ n. is_below n origin && test n) (names_above name) ≡ false
none_above test origin [] h = refl
none_above test origin (l ∷ []) h = refl
none_above test origin (l ∷ n ∷ o) h = λ i. (h i && test (n ∷ o)) || none_above test origin (n ∷ o) (parent_off origin (n ∷ o) h) i

-- none is a delegation
pub no_cut_above : {N O : Type 0} (records : List (Record N O)) (origin name : List (List ℕ)) → is_parent_below origin name ≡ false → list_any (is_zone_cut origin records) (names_above name) ≡ false
no_cut_above records origin name h = none_above (λ n. has_type_at Rtype.ns n records) origin name h

pub no_cut_in_above : {N O : Type 0} (records : List (Record N O)) (refused : List RrsetName) (origin name : List (List ℕ)) → is_parent_below origin name ≡ false
    → list_any (is_cut_in origin records refused) (names_above name) ≡ false
no_cut_in_above records refused origin name h = none_above (λ n. is_present Rtype.ns n records refused) origin name h

-- the first of two tests decides
pub first_true : (b c whole r : Bool) → whole ≡ (b || c) → r ≡ b → r ≡ true → r ≡ whole
first_true b c whole r e is t = t ∙ sym (e ∙ ap (λ x. x || c) (sym is ∙ t))

pub first_false : (b c whole r s : Bool) → whole ≡ (b || c) → r ≡ b → r ≡ false → s ≡ c → s ≡ whole
first_false b c whole r s e is f more = more ∙ sym (e ∙ ap (λ x. x || c) (sym is ∙ f))

-- ---- wildcards

-- an ancestor of a name is short enough for one more label of one octet
found_short : (g : List (List ℕ) → Bool) (name end : List (List ℕ)) → IsName name → find g (names_above name) ≡ Some end → wire_length end ≤ 253
found_short g [] end n h = cc
found_short g (l ∷ []) end n h = cc
found_short g (l ∷ m ∷ o) end n h = by (g (m ∷ o)) h
  where
    by : (b : Bool) → cond b (Some (m ∷ o)) (find g (names_above (m ∷ o))) ≡ Some end → wire_length end ≤ 253
    by true e = let is : m ∷ o ≡ end = cc in omega (arith, parent_short (l ∷ m ∷ o) (m ∷ o) refl n, ap wire_length is)
    by false e = omega (arith, found_shorter g (m ∷ o) end e, parent_short (l ∷ m ∷ o) (m ∷ o) refl n)

pub closest_short : (g : List (List ℕ) → Bool) (name end : List (List ℕ)) → IsName name → find g (name ∷ names_above name) ≡ Some end → wire_length end < wire_length name → wire_length end ≤ 253
closest_short g name end n h lt = by (g name) h
  where
    by : (b : Bool) → cond b (Some name) (find g (names_above name)) ≡ Some end → wire_length end ≤ 253
    by true e = let is : name ≡ end = cc in absurd (omega (arith, lt, ap wire_length is))
    by false e = found_short g name end n e

less_is : (m n : ℕ) → m < n → nat_lt m n ≡ true
less_is m n h = grind (arith, nat_tests)

pub not_less_is : (m n : ℕ) → n ≤ m → nat_lt m n ≡ false
not_less_is m n h = grind (arith, nat_tests)

-- the closest name that exists is an ancestor of a name that doesn't
pub closest_above : (f g : List (List ℕ) → Bool) (name end : List (List ℕ)) → find g (name ∷ names_above name) ≡ Some end
    → (nat_lt (wire_length end) (wire_length name) && f end) ≡ (not (g name) && option_map_or f (find g (names_above name)) false)
closest_above f g name end h = by (g name) h
  where
    by : (b : Bool) → cond b (Some name) (find g (names_above name)) ≡ Some end → (nat_lt (wire_length end) (wire_length name) && f end) ≡ (not b && option_map_or f (find g (names_above name)) false)
    by true e = let is : name ≡ end = cc in ap (λ b. b && f end) (not_less_is (wire_length end) (wire_length name) (omega (arith, ap wire_length is)))
    by false e =
        ap (λ b. b && f end) (less_is (wire_length end) (wire_length name) (found_shorter g name end e)) ∙ sym (ap (λ o. option_map_or f o false) e)

pub closest_nowhere : (f g : List (List ℕ) → Bool) (name : List (List ℕ)) → find g (name ∷ names_above name) ≡ None → false ≡ (not (g name) && option_map_or f (find g (names_above name)) false)
closest_nowhere f g name h = by (g name) h
  where
    by : (b : Bool) → cond b (Some name) (find g (names_above name)) ≡ None → false ≡ (not b && option_map_or f (find g (names_above name)) false)
    by true e = cc
    by false e = sym (ap (λ o. option_map_or f o false) e)
