-- The orders in which records and RRsets can be searched.
use Rattle.std.proofs.Common.{ℕ, ◌≡◌, ◌+◌, ◌<◌, Bool, true, false, List, [], ◌∷◌, length, get_or, refl, sym, ap, ◌∙◌, arith}
use Rattle.std.specs.Prelude.{◌==◌}
use Rattle.std.specs.List.{AllAdjacentBelow, list_all}
use Rattle.std.specs.List.Sorted.{IsNonDecreasingBy, IsPartitionedBy}
use Rattle.std.specs.Ordering.{is_lt, is_le, nat_cmp, ordering_index, ordering_then}
use Rattle.std.specs.declared.cmp.Ordering.{Ordering}
use Rattle.std.specs.declared.cmp.Ordering.TheVariants.{Less, Equal, Greater}
use Rattle.std.proofs.lemmas.Bool.{eqb-true, false≢true}
use Rattle.std.proofs.lemmas.Cmp.{nat_cmp_total, tied_itself}
use Rattle.std.proofs.lemmas.List.Folds.{list_all_at}
use Rattle.std.proofs.lemmas.List.Sorted.{searchable_from_sorted, IsPartitionedBy-leb}
use Rattle.zone_record.specs.Names.{name_order}
use Rattle.zone_record.proofs.Orders.{names_total}
use Rattle.zone_record.specs.declared.record.Record.{Record}
use Rattle.zone_rules.specs.Present.{AreSetsInOrder, rrset_of_record, set_order}
use Rattle.zone_rules.specs.Zones.{AreInOrder, is_one_class, type_of}
use Rattle.zone_rules.specs.declared.refused.RrsetName.{RrsetName}
use Rattle.zone_rules.proofs.Searches.{back_not, lt_index, le_index}

front_le : (o rest : Ordering) → is_le (ordering_then o rest) ≡ true → is_le o ≡ true
front_le Less rest h = refl
front_le Equal rest h = refl
front_le Greater rest h = cc

pub record_owners : {N O : Type 0} (rs : List (Record N O)) → AreInOrder rs → AllAdjacentBelow (λ a b. is_le (name_order a.owner b.owner) ≡ true) rs (length rs)
record_owners rs h k d lt = front_le (name_order (get_or rs k d).owner (get_or rs (k + 1) d).owner) _ (h k d lt)

pub set_owners : (ss : List RrsetName) → AreSetsInOrder ss → AllAdjacentBelow (λ a b. is_le (name_order a.owner b.owner) ≡ true) ss (length ss)
set_owners ss h k d lt = front_le (name_order (get_or ss k d).owner (get_or ss (k + 1) d).owner) _ (h k d lt)

module _ {X : Type 0} (owner : X → List (List ℕ)) where
  rise : (name : List (List ℕ)) (xs : List X) → AllAdjacentBelow (λ a b. is_le (name_order (owner a) (owner b)) ≡ true) xs (length xs) → IsNonDecreasingBy (λ x. ordering_index (name_order (owner x) name)) xs
  rise name xs h =
      searchable_from_sorted names_total owner xs name
      (λ k d low lt. back_not (name_order (owner (get_or xs k d)) (owner (get_or xs (k + 1) d))) _ (names_total.antisymm (owner (get_or xs (k + 1) d)) (owner (get_or xs k d))) (h k d lt))

  pub owners_parted : (name : List (List ℕ)) (xs : List X) → AllAdjacentBelow (λ a b. is_le (name_order (owner a) (owner b)) ≡ true) xs (length xs) → IsPartitionedBy (λ x. is_lt (name_order (owner x) name)) xs
  owners_parted name xs h i j d le lt t =
      sym (lt_index (name_order (owner (get_or xs i d)) name))
      ∙ IsPartitionedBy-leb (λ x. ordering_index (name_order (owner x) name)) xs 0 (rise name xs h) i j d le lt (lt_index (name_order (owner (get_or xs j d)) name) ∙ t)

  pub upto : (name : List (List ℕ)) (xs : List X) → AllAdjacentBelow (λ a b. is_le (name_order (owner a) (owner b)) ≡ true) xs (length xs) → IsPartitionedBy (λ x. is_le (name_order (owner x) name)) xs
  upto name xs h i j d le lt t =
      sym (le_index (name_order (owner (get_or xs i d)) name))
      ∙ IsPartitionedBy-leb (λ x. ordering_index (name_order (owner x) name)) xs 1 (rise name xs h) i j d le lt (le_index (name_order (owner (get_or xs j d)) name) ∙ t)

-- ---- records of one class are in the order of owner and type

passes_at : {X : Type 0} (p : X → Bool) (xs : List X) (k : ℕ) (d : X) → list_all p xs ≡ true → k < length xs → p (get_or xs k d) ≡ true
passes_at p xs k d all lt = by (p (get_or xs k d)) refl
  where
    by : (b : Bool) → p (get_or xs k d) ≡ b → b ≡ true
    by true e = refl
    by false e = absurd (false≢true (sym (list_all_at p xs k d lt e) ∙ all))

class_at : {N O : Type 0} (r : Record N O) (rs : List (Record N O)) (k : ℕ) (d : Record N O) → is_one_class (r ∷ rs) ≡ true → k < length (r ∷ rs) → (get_or (r ∷ rs) k d).class ≡ r.class
class_at r rs k d one lt = eqb-true (get_or (r ∷ rs) k d).class r.class (passes_at (λ s. s.class == r.class) (r ∷ rs) k d one lt)

same_class : {N O : Type 0} (rs : List (Record N O)) (k : ℕ) (d : Record N O) → is_one_class rs ≡ true → k + 1 < length rs → nat_cmp (get_or rs k d).class (get_or rs (k + 1) d).class ≡ Equal
same_class [] k d one lt = absurd (omega (arith, lt))
same_class (r ∷ rs) k d one lt =
    (λ i. nat_cmp (class_at r rs k d one (omega (arith, lt)) i) (class_at r rs (k + 1) d one lt i)) ∙ tied_itself nat_cmp_total r.class

by_type : (o c t rest : Ordering) → c ≡ Equal → is_le (ordering_then o (ordering_then c (ordering_then t rest))) ≡ true → is_le (ordering_then o t) ≡ true
by_type Less c t rest e h = refl
by_type Equal c t rest e h = front_le t rest (sym (ap (λ x. is_le (ordering_then x (ordering_then t rest))) e) ∙ h)
by_type Greater c t rest e h = cc

pub record_sets : {N O : Type 0} (rs : List (Record N O)) → AreInOrder rs → is_one_class rs ≡ true → AllAdjacentBelow (λ a b. is_le (set_order (rrset_of_record a) (rrset_of_record b)) ≡ true) rs (length rs)
record_sets rs h one k d lt =
    let a = get_or rs k d in
    let b = get_or rs (k + 1) d in
    by_type (name_order a.owner b.owner) (nat_cmp a.class b.class) (nat_cmp (type_of a) (type_of b)) _ (same_class rs k d one lt) (h k d lt)

-- ---- RRsets that are not in order

pub sets_not_in_order : (ss : List RrsetName) → (k : ℕ) × (k + 1 < length ss) × ((d : RrsetName) → false ≡ is_le (set_order (get_or ss k d) (get_or ss (k + 1) d))) → AreSetsInOrder ss → false ≡ true
sets_not_in_order [] w h = absurd (omega (arith, w.1))
sets_not_in_order (s ∷ ss) w h = w.2 s ∙ h w.0 s w.1
