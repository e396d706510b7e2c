-- The canonical set of the records of a zone, in the order in which they were added.
use Rattle.std.proofs.Common.{ℕ, ◌≡◌, ◌⊎◌, ◌&&◌, not, cond, Bool, true, false, inl, inr, List, [], ◌∷◌, map, refl, sym, ap, ◌∙◌}
use Rattle.std.specs.Prelude.{All, filter}
use Rattle.std.specs.List.{dedup}
use Rattle.std.specs.List.Sorted.{IsSorted, IsStable, ties}
use Rattle.std.specs.Ordering.{is_lt, ordering_reverse}
use Rattle.std.specs.declared.cmp.Ordering.{Ordering}
use Rattle.std.specs.declared.cmp.Ordering.TheVariants.{Less, Equal, Greater}
use Rattle.std.proofs.lemmas.Cmp.{alike_right}
use Rattle.std.proofs.lemmas.List.Elements.{All-head, All-tail}
use Rattle.zone_record.specs.declared.record.Record.{Record}
use Rattle.zone_contents.specs.Contents.{listed_record, listing, IsZoneRecord}
use Rattle.zone_contents.proofs.Distinct.{canonical_from, stored_in_order}
use Rattle.zone_contents.specs.Lookups.{canonical_order, same_key, AreCanonicalOf}
use Rattle.zone_store.specs.Stored.{AddedRecord, stored_order}
use Rattle.zone_contents.proofs.Firsts.{find_dedup, find_stable}
use Rattle.zone_contents.proofs.Passing.{order_total}

abbrev Listed : Type 0
Listed = Record (Unit {0}) (Unit {0})

tie_equal : (a b : Ordering) → a ≡ ordering_reverse b → not (is_lt a) && not (is_lt b) ≡ true → a ≡ Equal
tie_equal Less b e h = cc
tie_equal Equal b e h = refl
tie_equal Greater Less e h = cc
tie_equal Greater Equal e h = cc
tie_equal Greater Greater e h = cc

-- ---- filters

filter_as : {X : Type 0} (p q : X → Bool) (P : X → Type 0) (xs : List X) → All P xs → ((x : X) → P x → p x ≡ q x) → filter p xs ≡ filter q xs
filter_as p q P [] all h = refl
filter_as p q P (x ∷ xs) all h =
    let rest = filter_as p q P xs (All-tail P x xs all) h in
    λ i. cond (h x (All-head P x xs all) i) (x ∷ rest i) (rest i)

filter_listed : {X Y : Type 0} (p : Y → Bool) (f : X → Y) (xs : List X) → filter p (map f xs) ≡ map f (filter (λ x. p (f x)) xs)
filter_listed p f [] = refl
filter_listed p f (x ∷ xs) =
    elim (p (f x)) as (λ b. cond b (f x ∷ filter p (map f xs)) (filter p (map f xs)) ≡ map f (cond b (x ∷ filter (λ y. p (f y)) xs) (filter (λ y. p (f y)) xs))) [ true ↦ ap (λ l. f x ∷ l) (filter_listed p f xs) | false ↦ filter_listed p f xs ]

-- no element passes, or there is one that does
abbrev Passes : {X : Type 0} → (X → Bool) → (X → Type 0) → List X → Type 0
Passes {X} p P xs = (filter p xs ≡ []) ⊎ ((x : X) × P x × (p x ≡ true))

passes_next : {X : Type 0} (p : X → Bool) (P : X → Type 0) (x : X) (xs : List X) (b : Bool) → p x ≡ b → P x → Passes p P xs → Passes p P (x ∷ xs)
passes_next p P x xs true e is rest = inr (x, is, e)
passes_next p P x xs false e is (inl none) = inl (ap (λ b. cond b (x ∷ filter p xs) (filter p xs)) e ∙ none)
passes_next p P x xs false e is (inr some) = inr some

passes : {X : Type 0} (p : X → Bool) (P : X → Type 0) (xs : List X) → All P xs → Passes p P xs
passes p P [] all = inl refl
passes p P (x ∷ xs) all = passes_next p P x xs (p x) refl (All-head P x xs all) (passes p P xs (All-tail P x xs all))

module _ (apex : List (List ℕ)) where
  -- ---- records that tie with one

  abbrev tied : Listed → AddedRecord → Bool
  tied r x = ties (λ a b. is_lt (canonical_order a b)) r (listed_record apex x)

  -- records that tie with one of the store tie there
  tied_as : (r : Listed) (w x : AddedRecord) → IsZoneRecord apex w → IsZoneRecord apex x → tied r w ≡ true → tied r x ≡ ties (λ a b. is_lt (stored_order a b)) w x
  tied_as r w x p q h =
      let m = listed_record apex w in
      let n = listed_record apex x in
      let same : canonical_order r m ≡ Equal = tie_equal (canonical_order r m) (canonical_order m r) (order_total.antisymm r m) h in
      let right : canonical_order n r ≡ canonical_order n m = alike_right order_total r m n same in
      let left : canonical_order r n ≡ canonical_order m n = order_total.antisymm r n ∙ ap ordering_reverse right ∙ sym (order_total.antisymm m n) in
      λ i. not (is_lt ((left ∙ sym (stored_in_order apex w x p q)) i)) && not (is_lt ((right ∙ sym (stored_in_order apex x w q p)) i))

  module _ (xs ys : List AddedRecord) (added : All (IsZoneRecord apex) xs) (are : All (IsZoneRecord apex) ys) (stable : IsStable stored_order xs ys) where
    agree : (r : Listed) (w : AddedRecord) → IsZoneRecord apex w → tied r w ≡ true → filter (tied r) ys ≡ filter (tied r) xs
    agree r w p h =
        let by = ties (λ a b. is_lt (stored_order a b)) w in
        filter_as (tied r) by (IsZoneRecord apex) ys are (λ x q. tied_as r w x p q h) ∙ stable w ∙ sym (filter_as (tied r) by (IsZoneRecord apex) xs added (λ x q. tied_as r w x p q h))

    same_tied : (r : Listed) → filter (tied r) ys ≡ filter (tied r) xs
    same_tied r =
        elim (passes (tied r) (IsZoneRecord apex) xs added) [
          | inr some ↦ agree r some.0 some.1 some.2
          | inl none ↦ elim (passes (tied r) (IsZoneRecord apex) ys are) [ inl lacks ↦ lacks ∙ sym none | inr some ↦ agree r some.0 some.1 some.2 ]
        ]

    -- the sort of the store is stable for the records that rules read
    listed_stable : IsStable canonical_order (listing apex xs) (listing apex ys)
    listed_stable r =
        let p = ties (λ a b. is_lt (canonical_order a b)) r in
        filter_listed p (listed_record apex) ys ∙ ap (map (listed_record apex)) (same_tied r) ∙ sym (filter_listed p (listed_record apex) xs)

    pub sorted_canonical : IsSorted stored_order ys → AreCanonicalOf (listing apex xs) (dedup same_key (listing apex ys))
    sorted_canonical sorted = record {
      ordered = canonical_from apex ys (record { are = are; sorted = sorted }) 0;
      firsts = λ r. find_dedup order_total r (listing apex ys) ∙ find_stable order_total r (listing apex xs) (listing apex ys) listed_stable;
    }
