-- The changes between two sets turn one into the other.
use Rattle.std.proofs.Common.{zero, suc, ◌≡◌, Bool, true, false, cond, Option, Some, None, ◌⊎◌, inl, inr, List, [], ◌∷◌, refl, sym, ap, subst, ◌∙◌, arith}
use Rattle.std.specs.Prelude.{find, Any, ◌↔◌}
use Rattle.std.specs.Cmp.{Equal-is}
use Rattle.std.specs.Ordering.{is_eq}
use Rattle.std.proofs.lemmas.List.Elements.{recursion_from_All}
use Rattle.zone_record.specs.declared.record.Record.{Record}
use Rattle.zone_contents.specs.Differences.{AreChanges, HoldSame, MakeOf, DescribesChange, changed_record, ttl_of_change, ttl_of, ttl_under}
use Rattle.zone_contents.specs.Lookups.{canonical_order, same_key, record_under}
use Rattle.zone_contents.specs.declared.changes.Change.{Change}
use Rattle.zone_contents.proofs.Differing.{found_has}
use Rattle.zone_contents.proofs.Passing.{order_total}

none_some : {X : Type 0} (x : X) → Some x ≡ None → ⊥
none_some x h = cc

behind_none : {X : Type 0} (b : Bool) (x : X) (rest : Option X) → cond b (Some x) rest ≡ None → rest ≡ None
behind_none true x rest h = cc
behind_none false x rest h = h

some_found : {X : Type 0} (p : X → Bool) (xs : List X) → Any (λ x. p x ≡ true) xs → find p xs ≡ None → ⊥
some_found p [] (k, x, lt, at, h) none = omega (arith, lt)
some_found p (y ∷ xs) (zero, x, lt, at, h) none = none_some y (sym (ap (λ b. cond b (Some y) (find p xs)) (ap p at ∙ h)) ∙ none)
some_found p (y ∷ xs) (suc k, x, lt, at, h) none = some_found p xs (k, x, omega (arith, lt), at, h) (behind_none (p y) y (find p xs) none)

module _ {N O : Type 0} where
  -- under the keys of two equal records the same is found
  under_same : (r s : Record N O) (records : List (Record N O)) → same_key r s ≡ true → record_under r records ≡ record_under s records
  under_same r s records h = ap (λ p. find p records) (λ i x. is_eq (order_total.congr r s x ((Equal-is (canonical_order r s)).0 h) i))

  made : (old new : List (Record N O)) (changes : List (Change N O)) → AreChanges old new changes → (r : Record N O) (found : Option (Change N O))
      → find (λ c. same_key r (changed_record c)) changes ≡ found
      → ttl_under r new ≡ ttl_of_change found (ttl_under r old)
  made old new changes h r None none = none_made (h.complete r) where
    none_made : (ttl_under r old ≡ ttl_under r new) ⊎ Any (λ c. same_key r (changed_record c) ≡ true) changes → ttl_under r new ≡ ttl_under r old
    none_made (inl same) = sym same
    none_made (inr any) = absurd (some_found (λ c. same_key r (changed_record c)) changes any none)
  made old new changes h r (Some c) found =
      let has = found_has (λ c. same_key r (changed_record c)) (DescribesChange old new) changes c found (recursion_from_All (DescribesChange old new) changes h.told) in
      ap ttl_of (under_same r (changed_record c) new has.1 ∙ sym has.0.1)

  pub makes : (old new : List (Record N O)) (changes : List (Change N O)) → AreChanges old new changes → MakeOf old changes new
  makes old new changes h r = made old new changes h r (find (λ c. same_key r (changed_record c)) changes) refl

  nothing_told : (old new : List (Record N O)) (changes : List (Change N O)) → AreChanges old new changes → HoldSame old new → changes ≡ []
  nothing_told old new [] h same = refl
  nothing_told old new (c ∷ changes) h same =
      let told = h.told 0 c (omega arith) in absurd (told.2 (ap ttl_of told.0 ∙ same (changed_record c) ∙ sym (ap ttl_of told.1)))

  all_same : (old new : List (Record N O)) → AreChanges old new [] → HoldSame old new
  all_same old new h r = elim (h.complete r) [ inl e ↦ e | inr any ↦ absurd (omega (arith, any.2)) ]

  pub same_or_changes : (old new : List (Record N O)) (changes : List (Change N O)) → AreChanges old new changes → (changes ≡ []) ↔ HoldSame old new
  same_or_changes old new changes h = (λ e. all_same old new (subst (AreChanges old new) e h), nothing_told old new changes h)
