-- Marks of records by their owners.
use Rattle.std.proofs.Common.{ℕ, ◌≡◌, ◌+◌, ◌<◌, ◌≤◌, ◌⊎◌, inl, inr, Bool, true, false, Option, Some, None, List, [], ◌∷◌, length, take, get_or, refl, sym, ap, subst, ◌∙◌, arith, get_or-set_other, get_or-set_same}
use Rattle.std.specs.Prelude.{◌||◌, option_and_then, replicate, slice_get}
use Rattle.std.proofs.Math.ListN.{set, length-set}
use Rattle.std.specs.List.{list_any}
use Rattle.std.specs.Option.{option_map, option_map_or}
use Rattle.std.proofs.lemmas.Bool.{cases_lt}
use Rattle.std.proofs.lemmas.List.{get_or-replicate, length-replicate}
use Rattle.std.proofs.lemmas.List.Folds.{list_any_more}
use Rattle.std.proofs.lemmas.Option.{get_or_from_slice_get, slice_get-get_or}
use Rattle.dns_wire.specs.Order.{same_name}
use Rattle.zone_record.specs.declared.record.Record.{Record}
use Rattle.zone_rules.specs.Searches.{AreOwnedFrom}
use Rattle.zone_delegations.specs.Hidden.{delegation_of, is_name_among}
use Rattle.zone_delegations.specs.Owners.{owner_at, AreMarkedBy, AreMarkedFrom, AreMarks, AreOwnerMarks}
use Rattle.zone_delegations.proofs.Listed.{delegation_is}
use Rattle.zone_delegations.proofs.SameOwners.{named_same, same_both, same_itself}

or_nothing : (b : Bool) → (b || false) ≡ b
or_nothing true = refl
or_nothing false = refl

or_all : (b : Bool) → (b || true) ≡ true
or_all true = refl
or_all false = refl

none_some : {X : Type 0} (x : X) → None ≡ Some x → ⊥
none_some x e = cc

no_record : {X : Type 0} (xs : List X) (i : ℕ) → i < length xs → slice_get xs i ≡ None → ⊥
no_record [] i lt e = omega (arith, lt)
no_record (x ∷ xs) i lt e = none_some (get_or (x ∷ xs) i x) (sym e ∙ slice_get-get_or (x ∷ xs) i x lt)

-- ---- the names of some records more

module _ {N O : Type 0} (names : Record N O → Option (List (List ℕ))) (records : List (Record N O)) where
  -- no record marks any
  nothing_named : (o : Option (List (List ℕ))) → option_map_or (is_name_among names []) o false ≡ false
  nothing_named None = refl
  nothing_named (Some n) = refl

  pub marks_none : (n : ℕ) (marks : List Bool) → n ≡ length records → marks ≡ replicate n false → AreMarks names (take 0 records) records marks
  marks_none n marks e m = record {
    count = ap length m ∙ length-replicate n false ∙ e;
    marked = λ i lt. ap (λ l. get_or l i false) m ∙ get_or-replicate n i false false (omega (arith, lt, e)) ∙ sym (nothing_named (owner_at records i));
  }

  named_at : (k : ℕ) (s : Record N O) → slice_get records k ≡ Some s → k < length records → (n : List (List ℕ))
      → is_name_among names (take (k + 1) records) n ≡ (is_name_among names (take k records) n || option_map_or (λ other. same_name n other) (names s) false)
  named_at k s e lt n =
      let p : Record N O → Bool = λ r. option_map_or (λ other. same_name n other) (names r) false in
      list_any_more p records k s lt ∙ ap (λ r. list_any p (take k records) || p r) (get_or_from_slice_get records k s s e)

  -- the record at an index has a name
  pub marks_more : (k : ℕ) (x : List (List ℕ)) (before marks : List Bool) → k < length records → option_and_then names (slice_get records k) ≡ Some x
      → AreMarks names (take k records) records before → AreMarkedBy x records before marks → AreMarks names (take (k + 1) records) records marks
  marks_more k x before marks lt named h m = record {
    count = m.count ∙ h.count;
    marked = λ i less. m.marked i less ∙ step (get_or before i false) (owner_at records i) (h.marked i less);
  }
    where
      more : (o : Option (Record N O)) → slice_get records k ≡ o → (n : List (List ℕ)) → is_name_among names (take (k + 1) records) n ≡ (is_name_among names (take k records) n || same_name n x)
      more None e n = absurd (no_record records k lt e)
      more (Some s) e n =
          let is : names s ≡ Some x = ap (option_and_then names) (sym e) ∙ named in
          named_at k s e lt n ∙ ap (λ o. is_name_among names (take k records) n || option_map_or (λ other. same_name n other) o false) is

      step : (b : Bool) (o : Option (List (List ℕ))) → b ≡ option_map_or (is_name_among names (take k records)) o false
          → (b || option_map_or (λ owner. same_name owner x) o false) ≡ option_map_or (is_name_among names (take (k + 1) records)) o false
      step b None e = ap (λ c. c || false) e
      step b (Some n) e = ap (λ c. c || same_name n x) e ∙ sym (more (slice_get records k) refl n)

  -- the record at an index has none
  pub marks_same : (k : ℕ) (marks : List Bool) → k < length records → option_and_then names (slice_get records k) ≡ None
      → AreMarks names (take k records) records marks → AreMarks names (take (k + 1) records) records marks
  marks_same k marks lt named h = record {
    count = h.count;
    marked = λ i less. h.marked i less ∙ step (owner_at records i);
  }
    where
      less : (o : Option (Record N O)) → slice_get records k ≡ o → (n : List (List ℕ)) → is_name_among names (take (k + 1) records) n ≡ is_name_among names (take k records) n
      less None e n = absurd (no_record records k lt e)
      less (Some s) e n =
          let is : names s ≡ None = ap (option_and_then names) (sym e) ∙ named in
          named_at k s e lt n ∙ ap (λ o. is_name_among names (take k records) n || option_map_or (λ other. same_name n other) o false) is ∙ or_nothing (is_name_among names (take k records) n)

      step : (o : Option (List (List ℕ))) → option_map_or (is_name_among names (take k records)) o false ≡ option_map_or (is_name_among names (take (k + 1) records)) o false
      step None = refl
      step (Some n) = sym (less (slice_get records k) refl n)

  -- records with one owner have one mark
  pub owner_marks : (some : List (Record N O)) (marks : List Bool) → AreMarks names some records marks → AreOwnerMarks records marks
  owner_marks some marks h = record {
    count = h.count;
    one = λ i j a b li lj ai bj e.
        h.marked i li ∙ ap (λ o. option_map_or (is_name_among names some) o false) ai ∙ named_same names some a b e
        ∙ sym (h.marked j lj ∙ ap (λ o. option_map_or (is_name_among names some) o false) bj);
  }

-- ---- the records with an owner

module _ {N O : Type 0} (x : List (List ℕ)) (records : List (Record N O)) where
  -- one of them is marked
  pub marked_already : (before : List Bool) (k : ℕ) (a : List (List ℕ)) → k < length records → owner_at records k ≡ Some a → same_name a x ≡ true → AreOwnerMarks records before → get_or before k false ≡ true
      → AreMarkedBy x records before before
  marked_already before k a lt owner same own mark = record {
    count = refl;
    marked = λ i less. step i less (owner_at records i) refl;
  }
    where
      step : (i : ℕ) → i < length records → (o : Option (List (List ℕ))) → owner_at records i ≡ o → get_or before i false ≡ (get_or before i false || option_map_or (λ owner. same_name owner x) o false)
      step i less None e = sym (or_nothing (get_or before i false))
      step i less (Some n) e = by (same_name n x) refl
        where
          by : (t : Bool) → same_name n x ≡ t → get_or before i false ≡ (get_or before i false || t)
          by true s =
              let marked : get_or before i false ≡ true = own.one i k n a less lt e owner (same_both n a x s same) ∙ mark in
              marked ∙ sym (or_all (get_or before i false))
          by false s = sym (or_nothing (get_or before i false))

  pub first_marked : (before : List Bool) (first past : ℕ) → AreOwnedFrom x records first past → first < past → AreOwnerMarks records before → get_or before first false ≡ true → AreMarkedBy x records before before
  first_marked before first past owned lt own mark = by (slice_get records first) refl
    where
      within : first < length records
      within = omega (arith, lt, owned.bound)

      by : (o : Option (Record N O)) → slice_get records first ≡ o → AreMarkedBy x records before before
      by None e = absurd (no_record records first within e)
      by (Some r) e =
          marked_already before first r.owner within (ap (option_map (λ r. r.owner)) e)
          (ap (λ s. same_name s.owner x) (sym (get_or_from_slice_get records first r r e)) ∙ owned.owned first r (omega arith) lt) own mark

  off : (i : ℕ) (b : Bool) → ((d : Record N O) → same_name (get_or records i d).owner x ≡ false) → b ≡ (b || option_map_or (λ owner. same_name owner x) (owner_at records i) false)
  off i b h = by (slice_get records i) refl
    where
      by : (o : Option (Record N O)) → slice_get records i ≡ o → b ≡ (b || option_map_or (λ owner. same_name owner x) (option_map (λ r. r.owner) o) false)
      by None e = sym (or_nothing b)
      by (Some r) e = sym (ap (λ t. b || t) (ap (λ s. same_name s.owner x) (sym (get_or_from_slice_get records i r r e)) ∙ h r) ∙ or_nothing b)

  on : (i : ℕ) (b : Bool) → i < length records → ((d : Record N O) → same_name (get_or records i d).owner x ≡ true) → true ≡ (b || option_map_or (λ owner. same_name owner x) (owner_at records i) false)
  on i b lt h = by (slice_get records i) refl
    where
      by : (o : Option (Record N O)) → slice_get records i ≡ o → true ≡ (b || option_map_or (λ owner. same_name owner x) (option_map (λ r. r.owner) o) false)
      by None e = absurd (no_record records i lt e)
      by (Some r) e = sym (ap (λ t. b || t) (ap (λ s. same_name s.owner x) (sym (get_or_from_slice_get records i r r e)) ∙ h r) ∙ or_all b)

  -- the marks of the range are set
  pub marked_set : (before marks : List Bool) (first past : ℕ) → AreOwnedFrom x records first past → AreMarkedFrom before marks first past → AreMarkedBy x records before marks
  marked_set before marks first past owned f = record {
    count = f.count;
    marked = λ i lt. by i lt (cases_lt i first) (cases_lt i past);
  }
    where
      by : (i : ℕ) → i < length records → (i < first) ⊎ (first ≤ i) → (i < past) ⊎ (past ≤ i) → get_or marks i false ≡ (get_or before i false || option_map_or (λ owner. same_name owner x) (owner_at records i) false)
      by i lt (inl less) some = f.earlier i less ∙ off i (get_or before i false) (λ d. owned.before i d (omega arith) less)
      by i lt (inr low) (inl less) = f.within i low less ∙ on i (get_or before i false) lt (λ d. owned.owned i d low less)
      by i lt (inr low) (inr more) = f.later i more ∙ off i (get_or before i false) (λ d. owned.after i d more lt)

  -- there are none
  pub marked_none : (before : List Bool) (first past : ℕ) → AreOwnedFrom x records first past → past ≤ first → AreMarkedBy x records before before
  marked_none before first past owned le =
      marked_set before before first past owned (record {
        count = refl;
        earlier = λ i less. refl;
        within = λ i low less. absurd (omega (arith, le, low, less));
        later = λ i more. refl;
      })

module _ {N O : Type 0} (origin : List (List ℕ)) (records : List (Record N O)) where
  -- the owner of an NS below the apex is marked
  pub own_marked : (k : ℕ) (x : List (List ℕ)) (before : List Bool) → k < length records → option_and_then (delegation_of origin) (slice_get records k) ≡ Some x
      → AreOwnerMarks records before → get_or before k false ≡ true → AreMarkedBy x records before before
  own_marked k x before lt named own mark = by (slice_get records k) refl named
    where
      by : (o : Option (Record N O)) → slice_get records k ≡ o → option_and_then (delegation_of origin) o ≡ Some x → AreMarkedBy x records before before
      by None e h = absurd (no_record records k lt e)
      by (Some r) e h =
          marked_already x records before k r.owner lt (ap (option_map (λ r. r.owner)) e)
          (ap (same_name r.owner) (delegation_is origin r x h) ∙ same_itself r.owner) own mark

-- a record that is marked adds no mark
pub marked_before : {N O : Type 0} (origin : List (List ℕ)) (records : List (Record N O)) (k : ℕ) (marks : List Bool) → k < length records → AreMarks (delegation_of origin) (take k records) records marks
    → get_or marks k false ≡ true → AreMarks (delegation_of origin) (take (k + 1) records) records marks
marked_before origin records k marks lt are mark = by (option_and_then (delegation_of origin) (slice_get records k)) refl
  where
    by : (o : Option (List (List ℕ))) → option_and_then (delegation_of origin) (slice_get records k) ≡ o → AreMarks (delegation_of origin) (take (k + 1) records) records marks
    by None e = marks_same (delegation_of origin) records k marks lt e are
    by (Some name) e =
        marks_more (delegation_of origin) records k name marks marks lt e are
        (own_marked origin records k name marks lt e (owner_marks (delegation_of origin) records (take k records) marks are) mark)

-- ---- a loop that sets marks

pub set_none : (marks : List Bool) (first : ℕ) → AreMarkedFrom marks marks first first
set_none marks first = record {
  count = refl;
  earlier = λ i less. refl;
  within = λ i low less. absurd (omega (arith, low, less));
  later = λ i more. refl;
}

pub set_more : (before marks : List Bool) (first place past : ℕ) → place < past → first ≤ place → past ≤ length before → AreMarkedFrom before marks first place → AreMarkedFrom before (set marks place true) first (place + 1)
set_more before marks first place past lt low fits f = record {
  count = length-set marks place true ∙ f.count;
  earlier = λ i less. get_or-set_other marks place i true false (λ e. omega (arith, e, less, low)) ∙ f.earlier i less;
  within = λ i from less. by i from less (cases_lt i place);
  later = λ i more. get_or-set_other marks place i true false (λ e. omega (arith, e, more)) ∙ f.later i (omega (arith, more));
}
  where
    by : (i : ℕ) → first ≤ i → i < place + 1 → (i < place) ⊎ (place ≤ i) → get_or (set marks place true) i false ≡ true
    by i from less (inl k) = get_or-set_other marks place i true false (λ e. omega (arith, e, k)) ∙ f.within i from k
    by i from less (inr k) =
        let same : i ≡ place = omega (arith, less, k) in
        ap (λ j. get_or (set marks place true) j false) same ∙ get_or-set_same marks place true false (omega (arith, lt, fits, f.count))

-- (a range that is empty, or was gone through)
pub set_all : (before marks : List Bool) (first place past : ℕ) → first ≤ place → place ≡ past → AreMarkedFrom before marks first place → AreMarkedFrom before marks first past
set_all before marks first place past low e f = subst (λ p. AreMarkedFrom before marks first p) e f
