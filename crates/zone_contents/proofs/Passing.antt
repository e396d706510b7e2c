-- The first records of two sets are compared and skipped.
use Rattle.std.proofs.Common.{◌≡◌, ◌≢◌, ◌<◌, ◌+◌, Option, Some, None, List, [], ◌∷◌, ◌++◌, length, refl, sym, ap, subst, ◌∙◌, arith, MatchOption, Bor}
use Rattle.std.specs.Cmp.{IsTotalOrder}
use Rattle.std.specs.List.{AllByRecursion}
use Rattle.std.specs.Option.{option_to_list}
use Rattle.std.specs.Ordering.{ordering_reverse}
use Rattle.std.specs.declared.cmp.Ordering.TheVariants.{Less, Equal, Greater}
use Rattle.std.proofs.lemmas.Cmp.{on_total}
use Rattle.std.proofs.lemmas.List.Elements.{All-from_recursion, recursion_from_All}
use Rattle.std.proofs.lemmas.Map.Keys.{sorted_head, sorted_tail}
use Rattle.zone_record.proofs.Orders.{records_total}
use Rattle.zone_record.specs.CanonicalData.{record_key}
use Rattle.zone_record.specs.declared.record.Record.{Record}
use Rattle.zone_contents.specs.Differences.{AreChanges, DescribesChange, before_change, after_change, changed_record}
use Rattle.zone_contents.specs.Lookups.{canonical_order, AreCanonical}
use Rattle.zone_contents.specs.declared.changes.Change.{Change}
use Rattle.zone_contents.specs.declared.changes.Change.TheVariants.{Removed, Added}
use Rattle.zone_contents.proofs.Differing.{Difference, nothing, same_fronts, other_fronts, removed_front, added_front, above_less}

module _ {N O : Type 0} where
  pub order_total : IsTotalOrder (canonical_order {N = N} {O = O})
  order_total = on_total record_key records_total

  -- the change of two records of one key
  pub record IsTtlChange (old new : Record N O) (c : Change N O) : Type 0 where
    pub other : old.ttl ≢ new.ttl
    pub key : changed_record c ≡ old
    pub before : before_change c ≡ Some old
    pub after : after_change c ≡ Some new

  -- fewer records are left, and their changes come after this one
  pub record StepsOn (old new : List (Record N O)) (change : Option (Change N O)) (olds news : List (Record N O)) : Type 0 where
    pub fewer : length olds + length news < length old + length new
    pub goes_on : (rest : List (Change N O)) → AreChanges olds news rest → AreChanges old new (option_to_list change ++ rest)

  abbrev Differs : List (Record N O) → List (Record N O) → List (Change N O) → Type 0
  Differs old new changes = Difference order_total (λ r. r.ttl) changed_record before_change after_change old new changes

  abbrev pub AllAbove : Record N O → List (Record N O) → Type 0
  AllAbove a records = AllByRecursion (λ r. canonical_order a r ≡ Less) records

  to_difference : (old new : List (Record N O)) (changes : List (Change N O)) → AreChanges old new changes → Differs old new changes
  to_difference old new changes h = record { ordered = h.ordered; told = recursion_from_All (DescribesChange old new) changes h.told; complete = h.complete }

  from_difference : (old new : List (Record N O)) (changes : List (Change N O)) → Differs old new changes → AreChanges old new changes
  from_difference old new changes d = record { ordered = d.ordered; told = All-from_recursion (DescribesChange old new) changes d.told; complete = d.complete }

  above : (a : Record N O) (records : List (Record N O)) → AreCanonical (a ∷ records) → AllAbove a records
  above a records h = sorted_head canonical_order a records h

  behind : (a : Record N O) (records : List (Record N O)) → AreCanonical (a ∷ records) → AreCanonical records
  behind a records h = sorted_tail canonical_order a records h

  pub all_above : (a b : Record N O) (records : List (Record N O)) → canonical_order a b ≡ Less → AreCanonical (b ∷ records) → AllAbove a (b ∷ records)
  all_above a b records less h = (less, above_less order_total (λ r. r.ttl) a b records less (above b records h))

  pub no_changes : AreChanges {N = N} {O = O} [] [] []
  no_changes = from_difference [] [] [] (nothing order_total (λ r. r.ttl) changed_record before_change after_change)

  removed : (a : Record N O) (old new : List (Record N O)) (c : Change N O) → AreCanonical (a ∷ old) → AllAbove a new → changed_record c ≡ a → before_change c ≡ Some a → after_change c ≡ None
      → (rest : List (Change N O)) → AreChanges old new rest → AreChanges (a ∷ old) new (c ∷ rest)
  removed a old new c sorted p k was is rest h =
      from_difference (a ∷ old) new (c ∷ rest)
      (removed_front order_total (λ r. r.ttl) changed_record before_change after_change a old new c rest (above a old sorted) p k was is (to_difference old new rest h))

  added : (b : Record N O) (old new : List (Record N O)) (c : Change N O) → AreCanonical (b ∷ new) → AllAbove b old → changed_record c ≡ b → before_change c ≡ None → after_change c ≡ Some b
      → (rest : List (Change N O)) → AreChanges old new rest → AreChanges old (b ∷ new) (c ∷ rest)
  added b old new c sorted p k was is rest h =
      from_difference old (b ∷ new) (c ∷ rest)
      (added_front order_total (λ r. r.ttl) changed_record before_change after_change b old new c rest p (above b new sorted) k was is (to_difference old new rest h))

  kept : (a b : Record N O) (old new : List (Record N O)) → AreCanonical (a ∷ old) → AreCanonical (b ∷ new) → canonical_order a b ≡ Equal → a.ttl ≡ b.ttl
      → (rest : List (Change N O)) → AreChanges old new rest → AreChanges (a ∷ old) (b ∷ new) rest
  kept a b old new p q tie same rest h =
      from_difference (a ∷ old) (b ∷ new) rest
      (same_fronts order_total (λ r. r.ttl) changed_record before_change after_change a b old new rest tie same (above a old p) (above b new q) (to_difference old new rest h))

  other : (a b : Record N O) (old new : List (Record N O)) (c : Change N O) → AreCanonical (a ∷ old) → AreCanonical (b ∷ new) → canonical_order a b ≡ Equal → IsTtlChange a b c
      → (rest : List (Change N O)) → AreChanges old new rest → AreChanges (a ∷ old) (b ∷ new) (c ∷ rest)
  other a b old new c p q tie t rest h =
      from_difference (a ∷ old) (b ∷ new) (c ∷ rest)
      (other_fronts order_total (λ r. r.ttl) changed_record before_change after_change a b old new c rest tie t.other (above a old p) (above b new q) t.key t.before t.after
      (to_difference old new rest h))

  pub none_below : (a : Record N O) (records : List (Record N O)) → length records ≡ 0 → AllAbove a records
  none_below a [] none = tt
  none_below a (r ∷ records) none = absurd (omega (arith, none))

  pub steps_removed : (old new : List (Record N O)) (gone : Bor (Record N O)) (olds : List (Record N O)) → old ≡ gone.now ∷ olds → length olds + 1 ≡ length old
      → AreCanonical old → AllAbove gone.now new → StepsOn old new (Some (Removed gone)) olds new
  steps_removed old new gone olds e long p over = record {
    fewer = omega (arith, long);
    goes_on = λ rest h.
        subst (λ l. AreChanges l new (Removed gone ∷ rest)) (sym e)
        (removed gone.now olds new (Removed gone) (subst AreCanonical e p) over refl refl refl rest h);
  }

  pub steps_added : (old new : List (Record N O)) (come : Bor (Record N O)) (news : List (Record N O)) → new ≡ come.now ∷ news → length news + 1 ≡ length new
      → AreCanonical new → AllAbove come.now old → StepsOn old new (Some (Added come)) old news
  steps_added old new come news e long q over = record {
    fewer = omega (arith, long);
    goes_on = λ rest h.
        subst (λ l. AreChanges old l (Added come ∷ rest)) (sym e)
        (added come.now old news (Added come) (subst AreCanonical e q) over refl refl refl rest h);
  }

  both : (a b : Record N O) (old new : List (Record N O)) (change : Option (Change N O)) → AreCanonical (a ∷ old) → AreCanonical (b ∷ new) → canonical_order a b ≡ Equal
      → MatchOption change (a.ttl ≡ b.ttl) (IsTtlChange a b) → (rest : List (Change N O)) → AreChanges old new rest → AreChanges (a ∷ old) (b ∷ new) (option_to_list change ++ rest)
  both a b old new None p q tie t rest h = kept a b old new p q tie t rest h
  both a b old new (Some c) p q tie t rest h = other a b old new c p q tie t rest h

  pub steps_both : (old new : List (Record N O)) (a b : Record N O) (change : Option (Change N O)) (olds news : List (Record N O)) → old ≡ a ∷ olds → length olds + 1 ≡ length old
      → new ≡ b ∷ news → length news + 1 ≡ length new → AreCanonical old → AreCanonical new → canonical_order a b ≡ Equal → MatchOption change (a.ttl ≡ b.ttl) (IsTtlChange a b)
      → StepsOn old new change olds news
  steps_both old new a b change olds news e long f wide p q tie t = record {
    fewer = omega (arith, long, wide);
    goes_on = λ rest h.
        subst (λ l. AreChanges l new (option_to_list change ++ rest)) (sym e)
        (subst (λ l. AreChanges (a ∷ olds) l (option_to_list change ++ rest)) (sym f) (both a b olds news change (subst AreCanonical e p) (subst AreCanonical f q) tie t rest h));
  }

  pub above_front : (a b : Record N O) (new : List (Record N O)) (news : List (Record N O)) → new ≡ b ∷ news → AreCanonical new → canonical_order a b ≡ Less → AllAbove a new
  above_front a b new news e q less = subst (AllAbove a) (sym e) (all_above a b news less (subst AreCanonical e q))

  pub turned_order : (a b : Record N O) → canonical_order a b ≡ Greater → canonical_order b a ≡ Less
  turned_order a b greater = order_total.antisymm b a ∙ ap ordering_reverse greater
