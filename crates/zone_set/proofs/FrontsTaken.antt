-- A merge takes the front that comes first.
use Rattle.std.proofs.Common.{ℕ, suc, ◌≡◌, ◌≢◌, ◌+◌, ◌<◌, inl, inr, List, [], ◌∷◌, ◌++◌, length, refl, subst, arith}
use Rattle.std.specs.List.{AllByRecursion}
use Rattle.std.specs.declared.cmp.Ordering.{Ordering}
use Rattle.std.specs.declared.cmp.Ordering.TheVariants.{Less, Equal, Greater}
use Rattle.std.proofs.lemmas.List.Elements.{All-from_recursion}
use Rattle.zone_record.specs.declared.record.Record.{Record}
use Rattle.zone_set.specs.MergeHeads.{ComesBefore}
use Rattle.zone_contents.specs.Lookups.{canonical_order}
use Rattle.zone_set.specs.Merges.{IsLedBy, RemovesFirst}
use Rattle.zone_set.specs.declared.merge_heads.MergeHead.{MergeHead}

less_is_not_greater : (c : Ordering) → c ≡ Less → c ≢ Greater
less_is_not_greater c h e = cc

equal_is_not_greater : (c : Ordering) → c ≡ Equal → c ≢ Greater
equal_is_not_greater c h e = cc

module _ {N O : Type 0} where
  abbrev pub front_at : Record N O → ℕ → MergeHead N O
  front_at r k = record { «record» = r; run = k }

  -- the first records of runs, numbered from this number on
  abbrev pub fronts_of : ℕ → List (List (Record N O)) → List (MergeHead N O)
  fronts_of k [] = []
  fronts_of k ([] ∷ runs) = fronts_of (suc k) runs
  fronts_of k ((r ∷ run) ∷ runs) = front_at r k ∷ fronts_of (suc k) runs

  strictly : (r s : Record N O) (n k : ℕ) → k < n → ComesBefore (front_at r n) (front_at s k) → canonical_order r s ≡ Less
  strictly r s n k below (inl less) = less
  strictly r s n k below (inr h) = absurd (omega (arith, below, h.1))

  split_led : (k n : ℕ) (r : Record N O) (earlier rest : List (List (Record N O))) → k + length earlier ≡ n → AllByRecursion (ComesBefore (front_at r n)) (fronts_of k (earlier ++ rest))
      → AllByRecursion (IsLedBy (λ s. canonical_order r s ≡ Less)) earlier × AllByRecursion (ComesBefore (front_at r n)) (fronts_of n rest)
  split_led k n r [] rest e all = let same : k ≡ n = omega (arith, e) in (tt, subst (λ m. AllByRecursion (ComesBefore (front_at r n)) (fronts_of m rest)) same all)
  split_led k n r ([] ∷ earlier) rest e all = let others = split_led (suc k) n r earlier rest (omega (arith, e)) all in ((tt, others.0), others.1)
  split_led k n r ((s ∷ run) ∷ earlier) rest e all =
      let others = split_led (suc k) n r earlier rest (omega (arith, e)) all.1 in ((strictly r s n k (omega (arith, e)) all.0, others.0), others.1)

  not_behind : (r s : Record N O) (n k : ℕ) → ComesBefore (front_at r n) (front_at s k) → canonical_order r s ≢ Greater
  not_behind r s n k (inl less) = less_is_not_greater (canonical_order r s) less
  not_behind r s n k (inr h) = equal_is_not_greater (canonical_order r s) h.0

  later_led : (k n : ℕ) (r : Record N O) (runs : List (List (Record N O))) → AllByRecursion (ComesBefore (front_at r n)) (fronts_of k runs)
      → AllByRecursion (IsLedBy (λ s. canonical_order r s ≢ Greater)) runs
  later_led k n r [] all = tt
  later_led k n r ([] ∷ runs) all = (tt, later_led (suc k) n r runs all)
  later_led k n r ((s ∷ run) ∷ runs) all = (not_behind r s n k all.0, later_led (suc k) n r runs all.1)

  -- the front that comes before all others is taken, and its run continues
  pub first_is_taken : (earlier : List (List (Record N O))) (r : Record N O) (run : List (Record N O)) (later : List (List (Record N O)))
      → AllByRecursion (ComesBefore (front_at r (length earlier))) (fronts_of 0 (earlier ++ (r ∷ run) ∷ later)) → RemovesFirst (earlier ++ (r ∷ run) ∷ later) r (earlier ++ run ∷ later)
  first_is_taken earlier r run later all =
      let parts = split_led 0 (length earlier) r earlier ((r ∷ run) ∷ later) (omega arith) all in record {
        earlier = earlier;
        run = run;
        later = later;
        was = refl;
        is = refl;
        before = All-from_recursion (IsLedBy (λ s. canonical_order r s ≡ Less)) earlier parts.0;
        not_behind = All-from_recursion (IsLedBy (λ s. canonical_order r s ≢ Greater)) later (later_led (suc (length earlier)) (length earlier) r later parts.1.1);
      }
