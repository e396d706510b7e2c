-- The records of two zones are compared and skipped.
use Rattle.std.proofs.Common.{ℕ, ◌≡◌, ◌<◌, Option, Some, None, inl, inr, List, [], ◌∷◌, ◌++◌, length, get_or, map, true, refl, sym, ap, subst, ◌∙◌, append-nil, append_assoc, MatchOption}
use Rattle.std.specs.Prelude.{All, ◌↔◌}
use Rattle.std.specs.List.{dedup}
use Rattle.std.specs.Option.{option_to_list}
use Rattle.std.specs.declared.cmp.Ordering.TheVariants.{Less, Equal, Greater}
use Rattle.std.proofs.lemmas.List.{map-append}
use Rattle.std.proofs.lemmas.List.Elements.{All-append, All-cons, All-nil}
use Rattle.zone_record.specs.declared.record.Record.{Record}
use Rattle.zone_contents.specs.Changes.{change_of, changes_of, contents_at, lent, IsInZones}
use Rattle.zone_contents.specs.Contents.{contents, ZoneValue}
use Rattle.zone_contents.specs.Steps.{distinct_from, HasDistinct, IsNewTtl, SkipsDuplicates, StepsOver}
use Rattle.zone_contents.specs.declared.changes.ZoneChange.{ZoneChange}
use Rattle.zone_contents.specs.declared.changes.ZoneChange.TheVariants.{Removed, Added}
use Rattle.zone_contents.specs.declared.changes.ZoneStep.{ZoneStep}
use Rattle.zone_contents.specs.Differences.{changed_record, ttl_of, AreChanges, HoldSame}
use Rattle.zone_contents.specs.Lookups.{canonical_order, same_key, AreCanonical}
use Rattle.zone_contents.specs.declared.changes.Change.{Change}
use Rattle.zone_contents.proofs.Firsts.{find_dedup}
use Rattle.zone_contents.proofs.Passing.{above_front, no_changes, none_below, order_total, steps_added, steps_both, steps_removed, turned_order, AllAbove}
use Rattle.zone_contents.proofs.Patches.{same_or_changes}

abbrev Listed : Type 0
Listed = Record (Unit {0}) (Unit {0})

-- changes of sets without duplicates are those of all records
with_duplicates : (old new : List Listed) (changes : List (Change (Unit {0}) (Unit {0}))) → AreChanges (dedup same_key old) (dedup same_key new) changes → AreChanges old new changes
with_duplicates old new changes h = record {
  ordered = h.ordered;
  told = λ k d lt. let t = h.told k d lt in (t.0 ∙ find_dedup order_total (changed_record (get_or changes k d)) old, t.1 ∙ find_dedup order_total (changed_record (get_or changes k d)) new, t.2);
  complete = λ r. elim (h.complete r) [ inl e ↦ inl (sym (ap ttl_of (find_dedup order_total r old)) ∙ e ∙ ap ttl_of (find_dedup order_total r new)) | inr any ↦ inr any ];
}

no_items : {X Y : Type 0} (f : X → Y) (xs : List X) → map f xs ≡ [] → xs ≡ []
no_items f [] h = refl
no_items f (x ∷ xs) h = cc

one : {X : Type 0} (P : X → Type 0) (x : X) → P x → All P (x ∷ [])
one P x h = All-cons P x [] h (All-nil P)

-- a record is before all of no records
pub below_none : (r : Listed) (records : List Listed) → records ≡ [] → AllAbove r records
below_none r records e = none_below r records (ap length e)

module _ (old new : ZoneValue) where
  -- ---- one step

  module _ (from to : ℕ) (p : AreCanonical (distinct_from old from)) (q : AreCanonical (distinct_from new to)) where
    pub step_removed : (next : ℕ) → from < length old.records → SkipsDuplicates old from next → AllAbove (contents_at old from) (distinct_from new to)
        → StepsOver old new from to (record { change = Some (Removed from); old = next; new = to })
    step_removed next lt skips above =
        let s = steps_removed (distinct_from old from) (distinct_from new to) (lent (contents_at old from)) (distinct_from old next) skips.are (sym skips.fewer) p above in
        record { fewer = s.fewer; inside = one (IsInZones old new) (Removed from) lt; goes_on = s.goes_on }

    pub step_added : (next : ℕ) → to < length new.records → SkipsDuplicates new to next → AllAbove (contents_at new to) (distinct_from old from)
        → StepsOver old new from to (record { change = Some (Added to); old = from; new = next })
    step_added next lt skips above =
        let s = steps_added (distinct_from old from) (distinct_from new to) (lent (contents_at new to)) (distinct_from new next) skips.are (sym skips.fewer) q above in
        record { fewer = s.fewer; inside = one (IsInZones old new) (Added to) lt; goes_on = s.goes_on }

    pub step_both : (next other : ℕ) (change : Option ZoneChange) → SkipsDuplicates old from next → SkipsDuplicates new to other → canonical_order (contents_at old from) (contents_at new to) ≡ Equal
        → MatchOption change ((contents_at old from).ttl ≡ (contents_at new to).ttl) (IsNewTtl old new from to) → StepsOver old new from to (record { change = change; old = next; new = other })
    step_both next other None left right tie same =
        let s = steps_both (distinct_from old from) (distinct_from new to) (contents_at old from) (contents_at new to) None (distinct_from old next) (distinct_from new other)
        left.are (sym left.fewer) right.are (sym right.fewer) p q tie same in
        record { fewer = s.fewer; inside = All-nil (IsInZones old new); goes_on = s.goes_on }
    step_both next other (Some c) left right tie t =
        let s = steps_both (distinct_from old from) (distinct_from new to) (contents_at old from) (contents_at new to) (Some (change_of old new c)) (distinct_from old next) (distinct_from new other)
        left.are (sym left.fewer) right.are (sym right.fewer) p q tie (record { other = t.other; key = t.key; before = t.before; after = t.after }) in
        record { fewer = s.fewer; inside = one (IsInZones old new) c t.inside; goes_on = s.goes_on }

    -- a record is before those that are left
    pub removed_above : HasDistinct new to true → canonical_order (contents_at old from) (contents_at new to) ≡ Less → AllAbove (contents_at old from) (distinct_from new to)
    removed_above h less = above_front (contents_at old from) (contents_at new to) (distinct_from new to) _ (h.first refl) q less

    pub added_above : HasDistinct old from true → canonical_order (contents_at old from) (contents_at new to) ≡ Greater → AllAbove (contents_at new to) (distinct_from old from)
    added_above h greater = above_front (contents_at new to) (contents_at old from) (distinct_from old from) _ (h.first refl) p (turned_order (contents_at old from) (contents_at new to) greater)

  -- ---- all steps

  -- two zones are compared up to two indexes
  pub record Comparing (from to : ℕ) (done : List ZoneChange) : Type 0 where
    pub inside : All (IsInZones old new) done
    pub goes_on : (rest : List (Change (Unit {0}) (Unit {0}))) → AreChanges (distinct_from old from) (distinct_from new to) rest
        → AreChanges (distinct_from old 0) (distinct_from new 0) (changes_of old new done ++ rest)

  pub none_compared : (done : List ZoneChange) → done ≡ [] → Comparing 0 0 done
  none_compared done e = subst (Comparing 0 0) (sym e) (record { inside = All-nil (IsInZones old new); goes_on = λ rest h. h })

  pub more_compared : (from to : ℕ) (done done' : List ZoneChange) (step : ZoneStep) → Comparing from to done → StepsOver old new from to step → done' ≡ done ++ option_to_list step.change
      → Comparing step.old step.new done'
  more_compared from to done done' step w s e =
      let more = option_to_list step.change in record {
        inside = subst (All (IsInZones old new)) (sym e) (All-append (IsInZones old new) done more w.inside s.inside);
        goes_on = λ rest h.
            subst (AreChanges (distinct_from old 0) (distinct_from new 0))
            (sym (append_assoc (changes_of old new done) (changes_of old new more) rest) ∙ ap (λ l. l ++ rest) (sym (map-append (change_of old new) done more) ∙ ap (changes_of old new) (sym e)))
            (w.goes_on (changes_of old new more ++ rest) (s.goes_on rest h));
      }

  pub all_compared : (from to : ℕ) (done : List ZoneChange) → Comparing from to done → distinct_from old from ≡ [] → distinct_from new to ≡ []
      → AreChanges (contents old) (contents new) (changes_of old new done)
  all_compared from to done w e f =
      with_duplicates (contents old) (contents new) (changes_of old new done)
      (subst (AreChanges (distinct_from old 0) (distinct_from new 0)) (append-nil (changes_of old new done))
      (w.goes_on [] (subst (λ l. AreChanges l (distinct_from new to) []) (sym e) (subst (λ l. AreChanges [] l []) (sym f) no_changes))))

  pub same_or_differ : (done : List ZoneChange) → AreChanges (contents old) (contents new) (changes_of old new done) → (done ≡ []) ↔ HoldSame (contents old) (contents new)
  same_or_differ done h =
      let both = same_or_changes (contents old) (contents new) (changes_of old new done) h in
      (λ e. both.0 (ap (changes_of old new) e), λ same. no_items (change_of old new) done (both.1 same))
