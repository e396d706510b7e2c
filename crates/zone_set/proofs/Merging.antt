-- Sorted runs that are merged, and then deduplicated: records equal to the one before are removed.
use Rattle.std.proofs.Common.{zero, suc, ◌≡◌, ◌≢◌, Bool, true, false, cond, Option, Some, None, List, [], ◌∷◌, ◌++◌, ◌+◌, get_or, refl, sym, ap, subst, ◌∙◌, arith}
use Rattle.std.specs.Prelude.{find}
use Rattle.std.specs.Cmp.{Equal-is}
use Rattle.std.specs.List.{AllByRecursion, dedup}
use Rattle.std.specs.List.Sorted.{IsSorted}
use Rattle.std.specs.Option.{option_or}
use Rattle.std.specs.Ordering.{is_eq, is_lt, ordering_reverse}
use Rattle.std.specs.declared.cmp.Ordering.{Ordering}
use Rattle.std.specs.declared.cmp.Ordering.TheVariants.{Less, Equal, Greater}
use Rattle.std.proofs.lemmas.Cmp.{tied_itself}
use Rattle.std.proofs.lemmas.List.Elements.{recursion_from_All}
use Rattle.std.proofs.lemmas.List.Folds.{find-append}
use Rattle.std.proofs.lemmas.List.Kept.{IsStrictlySortedBy-dedup}
use Rattle.std.proofs.lemmas.Map.Keys.{sorted_head, sorted_tail}
use Rattle.zone_record.specs.declared.record.Record.{Record}
use Rattle.zone_contents.specs.Lookups.{AreCanonical, AreCanonicalOf, canonical_order, same_key}
use Rattle.zone_set.specs.Merges.{AreRunsOf, IsLedBy, MergesTo, RemovesFirst, records_of_runs}
use Rattle.zone_contents.proofs.Differing.{above_less}
use Rattle.zone_contents.proofs.Firsts.{find_dedup}
use Rattle.zone_contents.proofs.Passing.{order_total}

less_not_greater : (c : Ordering) → c ≡ Less → c ≢ Greater
less_not_greater c h e = cc

not_less_back : (c d : Ordering) → d ≡ ordering_reverse c → c ≢ Greater → is_lt d ≡ false
not_less_back Less d e h = ap is_lt e
not_less_back Equal d e h = ap is_lt e
not_less_back Greater d e h = absurd (h refl)

module _ {N O : Type 0} where
  abbrev Led : (Record N O → Type 0) → List (List (Record N O)) → Type 0
  Led P runs = AllByRecursion (IsLedBy P) runs

  abbrev Ordered : List (List (Record N O)) → Type 0
  Ordered runs = AllByRecursion AreCanonical runs

  abbrev Over : Record N O → Record N O → Type 0
  Over r s = canonical_order r s ≡ Less

  -- ---- the record that is found under a key

  other_key : (r s t : Record N O) → same_key s r ≡ true → canonical_order r t ≡ Less → same_key s t ≡ false
  other_key r s t same less = ap is_eq (order_total.congr s r t ((Equal-is (canonical_order s r)).0 same) ∙ less)

  none_found : (r s : Record N O) (run : List (Record N O)) → same_key s r ≡ true → AllByRecursion (Over r) run → find (same_key s) run ≡ None
  none_found r s [] same over = refl
  none_found r s (t ∷ run) same over = ap (λ b. cond b (Some t) (find (same_key s) run)) (other_key r s t same over.0) ∙ none_found r s run same over.1

  -- if a run begins with a record that comes after another, none of its records has the other's key
  none_in_run : (r s : Record N O) (run : List (Record N O)) → same_key s r ≡ true → AreCanonical run → IsLedBy (Over r) run → find (same_key s) run ≡ None
  none_in_run r s [] same sorted led = refl
  none_in_run r s (t ∷ run) same sorted led =
      none_found r s (t ∷ run) same (led, above_less order_total (λ x. x.ttl) r t run led (sorted_head canonical_order t run sorted))

  moved : (r s : Record N O) (run : List (Record N O)) (found : Option (Record N O)) → AreCanonical run → IsLedBy (Over r) run → (b : Bool) → same_key s r ≡ b
      → option_or (find (same_key s) run) (cond b (Some r) found) ≡ cond b (Some r) (option_or (find (same_key s) run) found)
  moved r s run found sorted led true same = ap (λ o. option_or o (Some r)) (none_in_run r s run same sorted led)
  moved r s run found sorted led false same = refl

  -- the first record of a run is found as if it came before the earlier runs
  found_front : (r s : Record N O) (earlier : List (List (Record N O))) (run : List (Record N O)) (later : List (List (Record N O))) → Ordered earlier → Led (Over r) earlier
      → find (same_key s) (records_of_runs (earlier ++ (r ∷ run) ∷ later)) ≡ cond (same_key s r) (Some r) (find (same_key s) (records_of_runs (earlier ++ run ∷ later)))
  found_front r s [] run later ordered led = refl
  found_front r s (first ∷ earlier) run later ordered led =
      let with_it = records_of_runs (earlier ++ (r ∷ run) ∷ later) in
      let without = records_of_runs (earlier ++ run ∷ later) in
      find-append (same_key s) first with_it
      ∙ ap (λ o. option_or (find (same_key s) first) o) (found_front r s earlier run later ordered.1 led.1)
      ∙ moved r s first (find (same_key s) without) ordered.0 led.0 (same_key s r) refl
      ∙ ap (λ o. cond (same_key s r) (Some r) o) (sym (find-append (same_key s) first without))

  -- ---- runs

  both_parts : (P : List (Record N O) → Type 0) (runs others : List (List (Record N O))) → AllByRecursion P (runs ++ others) → AllByRecursion P runs × AllByRecursion P others
  both_parts P [] others all = (tt, all)
  both_parts P (run ∷ runs) others all = let parts = both_parts P runs others all.1 in ((all.0, parts.0), parts.1)

  joined : (P : List (Record N O) → Type 0) (runs others : List (List (Record N O))) → AllByRecursion P runs → AllByRecursion P others → AllByRecursion P (runs ++ others)
  joined P [] others all more = more
  joined P (run ∷ runs) others all more = (all.0, joined P runs others all.1 more)

  -- the properties of the runs, for the parts of a step
  record Parted (runs : List (List (Record N O))) (r : Record N O) (left : List (List (Record N O))) (t : RemovesFirst runs r left) : Type 0 where
    pub earlier : Ordered t.earlier
    pub front : AreCanonical (r ∷ t.run)
    pub later : Ordered t.later

  parted : (runs : List (List (Record N O))) (r : Record N O) (left : List (List (Record N O))) (t : RemovesFirst runs r left) → Ordered runs → Parted runs r left t
  parted runs r left t ordered =
      let parts = both_parts AreCanonical t.earlier ((r ∷ t.run) ∷ t.later) (subst Ordered t.was ordered) in
      record { earlier = parts.0; front = parts.1.0; later = parts.1.1 }

  ordered_left : (runs : List (List (Record N O))) (r : Record N O) (left : List (List (Record N O))) → RemovesFirst runs r left → Ordered runs → Ordered left
  ordered_left runs r left t ordered =
      let parts = parted runs r left t ordered in
      subst Ordered (sym t.is) (joined AreCanonical t.earlier (t.run ∷ t.later) parts.earlier (sorted_tail canonical_order r t.run parts.front, parts.later))

  none_left : (runs : List (List (Record N O))) → AllByRecursion (λ run. run ≡ []) runs → records_of_runs runs ≡ []
  none_left [] all = refl
  none_left (run ∷ runs) all = ap (λ l. l ++ records_of_runs runs) all.0 ∙ none_left runs all.1

  pub found_merged : (records : List (Record N O)) (runs : List (List (Record N O))) → Ordered runs → MergesTo runs records → (s : Record N O)
      → find (same_key s) records ≡ find (same_key s) (records_of_runs runs)
  found_merged [] runs ordered merges s = sym (ap (find (same_key s)) (none_left runs (recursion_from_All (λ run. run ≡ []) runs merges)))
  found_merged (r ∷ records) runs ordered (left, t, rest) s =
      let parts = parted runs r left t ordered in
      ap (λ o. cond (same_key s r) (Some r) o) (found_merged records left (ordered_left runs r left t ordered) rest s ∙ ap (λ l. find (same_key s) (records_of_runs l)) t.is)
      ∙ sym (found_front r s t.earlier t.run t.later parts.earlier (recursion_from_All (IsLedBy (Over r)) t.earlier t.before))
      ∙ ap (λ l. find (same_key s) (records_of_runs l)) (sym t.was)

  -- ---- the order of the records that are taken

  abbrev NotBehind : Record N O → Record N O → Type 0
  NotBehind r s = canonical_order r s ≢ Greater

  weaker_led : (r : Record N O) (run : List (Record N O)) → IsLedBy (Over r) run → IsLedBy (NotBehind r) run
  weaker_led r [] led = tt
  weaker_led r (s ∷ run) led = less_not_greater (canonical_order r s) led

  weaker : (r : Record N O) (runs : List (List (Record N O))) → Led (Over r) runs → Led (NotBehind r) runs
  weaker r [] led = tt
  weaker r (run ∷ runs) led = (weaker_led r run led.0, weaker r runs led.1)

  behind_front : (r : Record N O) (run : List (Record N O)) → AreCanonical (r ∷ run) → IsLedBy (NotBehind r) run
  behind_front r [] sorted = tt
  behind_front r (s ∷ run) sorted = less_not_greater (canonical_order r s) ((sorted_head canonical_order r (s ∷ run) sorted).0)

  all_behind : (runs : List (List (Record N O))) (r : Record N O) (left : List (List (Record N O))) → RemovesFirst runs r left → Ordered runs → Led (NotBehind r) left
  all_behind runs r left t ordered =
      let parts = parted runs r left t ordered in
      subst (Led (NotBehind r)) (sym t.is)
      (joined (IsLedBy (NotBehind r)) t.earlier (t.run ∷ t.later)
      (weaker r t.earlier (recursion_from_All (IsLedBy (Over r)) t.earlier t.before))
      (behind_front r t.run parts.front, recursion_from_All (IsLedBy (NotBehind r)) t.later t.not_behind))

  -- the first record that is taken was the first of a run
  leads : (P : Record N O → Type 0) (records : List (Record N O)) (runs : List (List (Record N O))) → MergesTo runs records → Led P runs → IsLedBy P records
  leads P [] runs merges led = tt
  leads P (r ∷ records) runs (left, t, rest) led = (both_parts (IsLedBy P) t.earlier ((r ∷ t.run) ∷ t.later) (subst (Led P) t.was led)).1.0

  sorted_more : (r : Record N O) (records : List (Record N O)) → IsLedBy (NotBehind r) records → IsSorted canonical_order records → IsSorted canonical_order (r ∷ records)
  sorted_more r [] led sorted k d low high = absurd (omega (arith, high))
  sorted_more r (s ∷ records) led sorted zero d low high = not_less_back (canonical_order r s) (canonical_order s r) (order_total.antisymm s r) led
  sorted_more r (s ∷ records) led sorted (suc k) d low high =
      let e : suc (k + 1) ≡ suc k + 1 = omega arith in
      subst (λ n. is_lt (canonical_order (get_or (r ∷ s ∷ records) n d) (get_or (s ∷ records) k d)) ≡ false) e (sorted k d (omega arith) (omega (arith, high)))

  sorted_none : IsSorted (canonical_order {N = N} {O = O}) []
  sorted_none k d low high = absurd (omega (arith, high))

  pub sorted_merged : (records : List (Record N O)) (runs : List (List (Record N O))) → Ordered runs → MergesTo runs records → IsSorted canonical_order records
  sorted_merged [] runs ordered merges = sorted_none
  sorted_merged (r ∷ records) runs ordered (left, t, rest) =
      sorted_more r records (leads (NotBehind r) records left rest (all_behind runs r left t ordered)) (sorted_merged records left (ordered_left runs r left t ordered) rest)

  -- the records that are taken, without those equal to the one before, are the canonical list of the runs' records
  pub merged_canonical : (records : List (Record N O)) (runs : List (List (Record N O))) → Ordered runs → MergesTo runs records → AreCanonicalOf (records_of_runs runs) (dedup same_key records)
  merged_canonical records runs ordered merges = record {
    ordered = IsStrictlySortedBy-dedup order_total (λ x y. refl) records (sorted_merged records runs ordered merges);
    firsts = λ s. find_dedup order_total s records ∙ found_merged records runs ordered merges s;
  }

  -- ---- a list alone is in order and has the same record under each key

  same_itself : (r : Record N O) → same_key r r ≡ true
  same_itself r = ap is_eq (tied_itself order_total r)

  found_itself : (r : Record N O) (records : List (Record N O)) → find (same_key r) (r ∷ records) ≡ Some r
  found_itself r records = ap (λ b. cond b (Some r) (find (same_key r) records)) (same_itself r)

  none_some : (r : Record N O) (found : Option (Record N O)) → found ≡ None → found ≡ Some r → ⊥
  none_some r found h k = cc

  some_same : (r s : Record N O) → Some r ≡ Some s → r ≡ s
  some_same r s h = cc

  abbrev AllFound : List (Record N O) → List (Record N O) → Type 0
  AllFound xs ys = (r : Record N O) → find (same_key r) xs ≡ find (same_key r) ys

  same_tails : (x : Record N O) (xs ys : List (Record N O)) → AreCanonical (x ∷ xs) → AreCanonical (x ∷ ys) → AllFound (x ∷ xs) (x ∷ ys) → AllFound xs ys
  same_tails x xs ys p q h r = by_key (same_key r x) refl (h r) where
    by_key : (b : Bool) → same_key r x ≡ b → cond b (Some x) (find (same_key r) xs) ≡ cond b (Some x) (find (same_key r) ys) → find (same_key r) xs ≡ find (same_key r) ys
    by_key true same e = none_found x r xs same (sorted_head canonical_order x xs p) ∙ sym (none_found x r ys same (sorted_head canonical_order x ys q))
    by_key false same e = e

  not_over : (x y : Record N O) (ys : List (Record N O)) → AreCanonical (y ∷ ys) → canonical_order x y ≡ Less → find (same_key x) (y ∷ ys) ≡ Some x → ⊥
  not_over x y ys q less found =
      none_some x (find (same_key x) (y ∷ ys))
      (none_found x x (y ∷ ys) (same_itself x) (less, above_less order_total (λ r. r.ttl) x y ys less (sorted_head canonical_order y ys q))) found

  same_front_record : (x y : Record N O) (xs ys : List (Record N O)) → AreCanonical (x ∷ xs) → AreCanonical (y ∷ ys) → AllFound (x ∷ xs) (y ∷ ys)
      → (c : Ordering) → canonical_order x y ≡ c → x ≡ y
  same_front_record x y xs ys p q h Less e = absurd (not_over x y ys q e (sym (h x) ∙ found_itself x xs))
  same_front_record x y xs ys p q h Greater e =
      absurd (not_over y x xs p (order_total.antisymm y x ∙ ap ordering_reverse e) (h y ∙ found_itself y ys))
  same_front_record x y xs ys p q h Equal e =
      some_same x y (sym (found_itself x xs) ∙ h x ∙ ap (λ c. cond (is_eq c) (Some y) (find (same_key x) ys)) e)

  pub one_canonical : (xs ys : List (Record N O)) → AreCanonical xs → AreCanonical ys → AllFound xs ys → xs ≡ ys
  one_canonical [] [] p q h = refl
  one_canonical [] (y ∷ ys) p q h = absurd (none_some y (find (same_key y) (y ∷ ys)) (sym (h y)) (found_itself y ys))
  one_canonical (x ∷ xs) [] p q h = absurd (none_some x (find (same_key x) (x ∷ xs)) (h x) (found_itself x xs))
  one_canonical (x ∷ xs) (y ∷ ys) p q h =
      let e : x ≡ y = same_front_record x y xs ys p q h (canonical_order x y) refl in
      let sorted : AreCanonical (x ∷ ys) = subst (λ z. AreCanonical (z ∷ ys)) (sym e) q in
      let found : AllFound (x ∷ xs) (x ∷ ys) = subst (λ z. AllFound (x ∷ xs) (z ∷ ys)) (sym e) h in
      ap (λ l. x ∷ l)
      (one_canonical xs ys (sorted_tail canonical_order x xs p) (sorted_tail canonical_order x ys sorted) (same_tails x xs ys p sorted found))
      ∙ ap (λ z. z ∷ ys) e

  -- ---- runs of parts of all records

  runs_ordered : (parts runs : List (List (Record N O))) → AreRunsOf parts runs → Ordered runs
  runs_ordered [] [] h = tt
  runs_ordered [] (run ∷ runs) h = absurd h
  runs_ordered (part ∷ parts) [] h = absurd h
  runs_ordered (part ∷ parts) (run ∷ runs) h = (h.0.ordered, runs_ordered parts runs h.1)

  runs_found : (parts runs : List (List (Record N O))) → AreRunsOf parts runs → AllFound (records_of_runs runs) (records_of_runs parts)
  runs_found [] [] h r = refl
  runs_found [] (run ∷ runs) h r = absurd h
  runs_found (part ∷ parts) [] h r = absurd h
  runs_found (part ∷ parts) (run ∷ runs) h r =
      find-append (same_key r) run (records_of_runs runs)
      ∙ ap (λ o. option_or o (find (same_key r) (records_of_runs runs))) (h.0.firsts r)
      ∙ ap (λ o. option_or (find (same_key r) part) o) (runs_found parts runs h.1 r)
      ∙ sym (find-append (same_key r) part (records_of_runs parts))

  -- runs of parts of all records, merged and deduplicated, are the canonical list of all records
  pub merged_runs : (parts runs : List (List (Record N O))) (records : List (Record N O)) → AreRunsOf parts runs → MergesTo runs records → AreCanonicalOf (records_of_runs parts) (dedup same_key records)
  merged_runs parts runs records are merges =
      let merged = merged_canonical records runs (runs_ordered parts runs are) merges in
      record { ordered = merged.ordered; firsts = λ r. merged.firsts r ∙ runs_found parts runs are r }

  -- and so they are the same list, whatever the parts are
  pub merged_is_canonical : (parts runs : List (List (Record N O))) (records canonical : List (Record N O)) → AreRunsOf parts runs → MergesTo runs records → AreCanonicalOf (records_of_runs parts) canonical
      → dedup same_key records ≡ canonical
  merged_is_canonical parts runs records canonical are merges of_all =
      let merged = merged_runs parts runs records are merges in
      one_canonical (dedup same_key records) canonical merged.ordered of_all.ordered (λ r. merged.firsts r ∙ sym (of_all.firsts r))
