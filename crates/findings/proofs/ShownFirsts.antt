-- Of findings that are collected, those that can be shown.
use Rattle.std.proofs.Common.{◌≡◌, ℕ, suc, ◌≤◌, ◌==◌, Bool, true, false, cond, if◌then◌else◌, List, [], ◌∷◌, ◌++◌, Option, Some, option_to_list, length, take, get_or, filter, IsPermutation, is_lt, refl, sym, ap, subst, ◌∙◌, append_assoc, append-nil, arith}
use Rattle.std.specs.Cmp.{IsStrictWeakOrder, IsTotalOrder}
use Rattle.std.specs.List.{AllByRecursion}
use Rattle.std.specs.List.Sorted.{IsStable, ties}
use Rattle.std.specs.Option.{IfSome}
use Rattle.std.specs.declared.cmp.Ordering.{Ordering}
use Rattle.std.proofs.lemmas.List.{get_or-map, get_or-take, length-map, length-take-le, take-map}
use Rattle.std.proofs.lemmas.List.Sorted.{IsPermutation-map, length_permutation, ranks_by}
use Rattle.findings.specs.declared.finding_order.Kept.{Kept}
use Rattle.findings.specs.declared.finding_order.KeptFinding.{KeptFinding}
use Rattle.findings.specs.Collected.{IsLast, ShowAlike}
use Rattle.findings.specs.FindingOrder.{IsStableSort, ShownFindings, findings_of, first_findings, kept_position, kept_weight, position_order, weight_order}
use Rattle.findings.proofs.PassedOver.{passed_over, up_to}
use Rattle.findings.proofs.PlaceOrders.{positions_total, weights_total}
use Rattle.findings.proofs.StableSorts.{Rising, filter_all, one_sort, permuted_all, placed_all, placed_append, rising_all, rising_if_sorted, rising_taken, sorted_if_rising, take_again, take_placed_all}

abbrev before : KeptFinding → KeptFinding → Bool
before a b = is_lt (weight_order a b)

abbrev by_weight : List KeptFinding → List KeptFinding
by_weight found = placed_all before [] found

ordered : IsStrictWeakOrder before
ordered = ranks_by weights_total (λ r. r)

is_sort : (found : List KeptFinding) → IsStableSort weight_order found (by_weight found)
is_sort found = record {
  permutation = permuted_all before [] found;
  stable = λ t. filter_all before ordered t [] found tt;
  in_order = sorted_if_rising before (by_weight found) (rising_all before ordered [] found tt);
}

one_order : (found ranked : List KeptFinding) → IsStableSort weight_order found ranked → ranked ≡ by_weight found
one_order found ranked h =
    one_sort before ordered ranked (by_weight found) (rising_if_sorted before ordered ranked h.in_order) (rising_all before ordered [] found tt)
    (λ t. h.stable t ∙ sym (filter_all before ordered t [] found tt))

-- sorting what is sorted changes nothing
sorted_again : (l : List KeptFinding) → Rising before l → by_weight l ≡ l
sorted_again l h = one_sort before ordered (by_weight l) l (rising_all before ordered [] l tt) h (λ t. filter_all before ordered t [] l tt)

-- the first of these and of more, if the first of these are the same
firsts : (n : ℕ) (found kept more : List KeptFinding) → take n (by_weight kept) ≡ take n (by_weight found) → take n (by_weight (kept ++ more)) ≡ take n (by_weight (found ++ more))
firsts n found kept more same =
    ap (take n) (placed_append before [] kept more)
    ∙ take_placed_all before n (by_weight kept) more
    ∙ ap (λ l. take n (placed_all before l more)) same
    ∙ sym (take_placed_all before n (by_weight found) more)
    ∙ sym (ap (take n) (placed_append before [] found more))

-- what has the same first ones by weight shows the same, whatever is found after it
alike_if_same : (most : ℕ) (found kept : List KeptFinding) → (most == 0) ≡ false → take most (by_weight kept) ≡ take most (by_weight found) → ShowAlike most found kept
alike_if_same most found kept some same more shown s =
    let first = λ (l : List KeptFinding). ap (λ b. if b then l else take most l) some in (
      by_weight (found ++ more),
      is_sort (found ++ more),
      subst (λ l. IsStableSort position_order l shown)
          (first s.0
          ∙ ap (take most) (one_order (kept ++ more) s.0 s.1)
          ∙ firsts most found kept more same
          ∙ sym (first (by_weight (found ++ more)))) s.2,
    )

-- what is beyond the first by weight is not shown
pub pruned : (most : ℕ) (kept ranked : List KeptFinding) → (most == 0) ≡ false → IsStableSort weight_order kept ranked → ShowAlike most kept (take most ranked)
pruned most kept ranked some h =
    let rising : Rising before ranked = rising_if_sorted before ordered ranked h.in_order in
    alike_if_same most kept (take most ranked) some
    (ap (take most) (sorted_again (take most ranked) (rising_taken before most ranked rising))
    ∙ take_again most ranked
    ∙ ap (take most) (one_order kept ranked h))

-- no finding that is not before the last of the first by weight is shown
pub last_kept : (most n : ℕ) (kept ranked : List KeptFinding) (last : KeptFinding) → suc n ≡ most → (most == 0) ≡ false → IsStableSort weight_order kept ranked
    → most ≤ length ranked → last ≡ get_or ranked n last → IsLast most (take most ranked) last
last_kept most n kept ranked last size some h long is more one after =
    let first : List KeptFinding = take most ranked in
    let rising : Rising before ranked = rising_if_sorted before ordered ranked h.in_order in
    let again : by_weight first ≡ first = sorted_again first (rising_taken before most ranked rising) in
    let full : length first ≡ most = length-take-le most ranked long in
    let below : AllByRecursion (λ y. before last y ≡ false) (take most first) =
    subst (λ l. AllByRecursion (λ y. before last y ≡ false) l) (sym (take_again most ranked))
    (subst (λ m. AllByRecursion (λ y. before last y ≡ false) (take m ranked)) size (up_to before ordered n ranked last rising (omega (arith, size, long)) is)) in
    let placed = λ (l : List KeptFinding). placed_append before [] first l ∙ ap (λ k. placed_all before k l) again in
    alike_if_same most ((first ++ more) ++ one ∷ []) (first ++ more) some
    (ap (take most) (placed more)
    ∙ sym (passed_over before ordered most last one first more (omega (arith, full)) below after)
    ∙ sym (ap (take most) (placed (more ++ one ∷ [])))
    ∙ ap (λ l. take most (by_weight l)) (sym (append_assoc first more (one ∷ []))))

pub last_more : (most : ℕ) (kept added : List KeptFinding) (last : KeptFinding) → IsLast most kept last → IsLast most (kept ++ added) last
last_more most kept added last h more one after =
    subst (λ l. ShowAlike most (l ++ one ∷ []) l) (sym (append_assoc kept added more)) (h (added ++ more) one after)

pub after_last : (most : ℕ) (kept : List KeptFinding) (one last : KeptFinding) → IsLast most kept last → before one last ≡ false → ShowAlike most (kept ++ one ∷ []) (kept ++ [])
after_last most kept one last h after =
    subst (λ l. ShowAlike most (kept ++ one ∷ []) l) (sym (append-nil kept)) (subst (λ l. ShowAlike most (l ++ one ∷ []) l) (append-nil kept) (h [] one after))

pub alike_through : (most : ℕ) (found kept less : List KeptFinding) → ShowAlike most found kept → ShowAlike most kept less → ShowAlike most found less
alike_through most found kept less h k more shown s = h more shown (k more shown s)

pub alike_more : (most : ℕ) (found kept one : List KeptFinding) → ShowAlike most found kept → ShowAlike most (found ++ one) (kept ++ one)
alike_more most found kept one h more shown s =
    subst (λ l. ShownFindings most l shown) (sym (append_assoc found one more))
    (h (one ++ more) shown (subst (λ l. ShownFindings most l shown) (append_assoc kept one more) s))

pub shown_of_all : (most : ℕ) (found kept shown : List KeptFinding) → ShowAlike most found kept → ShownFindings most kept shown → ShownFindings most found shown
shown_of_all most found kept shown h s =
    subst (λ l. ShownFindings most l shown) (append-nil found) (h [] shown (subst (λ l. ShownFindings most l shown) (sym (append-nil kept)) s))

-- ---- the texts of findings change no order

abbrev finding_before : (order : KeptFinding → KeptFinding → Ordering) → KeptFinding → KeptFinding → Bool
finding_before order a b = is_lt (order a b)

abbrev kept_before : {T : Type 0} → (order : KeptFinding → KeptFinding → Ordering) → Kept T → Kept T → Bool
kept_before order a b = is_lt (order a.finding b.finding)

module _ {T : Type 0} (order : KeptFinding → KeptFinding → Ordering) (total : IsTotalOrder order) where
  filter_findings : (p : KeptFinding → Bool) (l : List (Kept T)) → filter p (findings_of l) ≡ findings_of (filter (λ k. p k.finding) l)
  filter_findings p [] = refl
  filter_findings p (x ∷ xs) =
      let q : Kept T → Bool = λ k. p k.finding in
      elim (p x.finding) as (λ b. cond b (x.finding ∷ filter p (findings_of xs)) (filter p (findings_of xs)) ≡ findings_of (cond b (x ∷ filter q xs) (filter q xs)))
      [ true ↦ ap (λ l. x.finding ∷ l) (filter_findings p xs) | false ↦ filter_findings p xs ]

  all_findings : (P : KeptFinding → Type 0) (l : List (Kept T)) → AllByRecursion (λ k. P k.finding) l → AllByRecursion P (findings_of l)
  all_findings P [] h = tt
  all_findings P (x ∷ xs) h = (h.0, all_findings P xs h.1)

  rising_findings : (l : List (Kept T)) → Rising (kept_before order) l → Rising (finding_before order) (findings_of l)
  rising_findings [] h = tt
  rising_findings (x ∷ xs) h = (all_findings (λ y. finding_before order y x.finding ≡ false) xs h.0, rising_findings xs h.1)

  stable_findings : (xs ys : List (Kept T)) → IsPermutation xs ys → IsStable (λ (a b : Kept T). order a.finding b.finding) xs ys → IsStable order (findings_of xs) (findings_of ys)
  stable_findings [] [] p h t = refl
  stable_findings [] (y ∷ ys) p h t = absurd (let long : suc (length ys) ≡ 0 = length_permutation [] (y ∷ ys) p in omega (arith, long))
  stable_findings (x ∷ xs) ys p h t =
      let other : Kept T = record { finding = t; text = x.text } in
      filter_findings (ties (finding_before order) t) ys ∙ ap (λ (l : List (Kept T)). findings_of l) (h other) ∙ sym (filter_findings (ties (finding_before order) t) (x ∷ xs))

  pub sorted_findings : (xs ys : List (Kept T)) → IsStableSort (λ (a b : Kept T). order a.finding b.finding) xs ys → IsStableSort order (findings_of xs) (findings_of ys)
  sorted_findings xs ys h = record {
    permutation = IsPermutation-map (λ (k : Kept T). k.finding) xs ys h.permutation;
    stable = stable_findings xs ys h.permutation h.stable;
    in_order = sorted_if_rising (finding_before order) (findings_of ys) (rising_findings ys (rising_if_sorted (kept_before order) (ranks_by total (λ (k : Kept T). k.finding)) ys h.in_order));
  }

module _ {T : Type 0} where
  by_weight_alone : (found ranked : List (Kept T)) → IsStableSort kept_weight found ranked → IsStableSort weight_order (findings_of found) (findings_of ranked)
  by_weight_alone found ranked h = sorted_findings weight_order weights_total found ranked h

  pub dropped : (most : ℕ) (kept ranked less : List (Kept T)) → (most == 0) ≡ false → IsStableSort kept_weight kept ranked → less ≡ take most ranked → ShowAlike most (findings_of kept) (findings_of less)
  dropped most kept ranked less some h e =
      subst (λ (l : List KeptFinding). ShowAlike most (findings_of kept) l)
      (take-map (λ (k : Kept T). k.finding) most ranked ∙ ap (λ (l : List (Kept T)). findings_of l) (sym e))
      (pruned most (findings_of kept) (findings_of ranked) some (by_weight_alone kept ranked h))

  pub last_of_dropped : (most n : ℕ) (kept ranked less : List (Kept T)) (last : Kept T) → suc n ≡ most → (most == 0) ≡ false → IsStableSort kept_weight kept ranked
      → most ≤ length kept → less ≡ take most ranked → last ≡ get_or less n last → IsLast most (findings_of less) last.finding
  last_of_dropped most n kept ranked less last size some h long e is =
      let alone : List KeptFinding = findings_of ranked in
      let full : length ranked ≡ length kept = length_permutation kept ranked h.permutation in
      let mapped : length alone ≡ length ranked = length-map ranked (λ (k : Kept T). k.finding) in
      let read : last ≡ get_or ranked n last = is ∙ ap (λ l. get_or l n last) e ∙ get_or-take most ranked n last (omega (arith, size)) in
      let found : last.finding ≡ get_or alone n last.finding =
      ap (λ (k : Kept T). k.finding) read ∙ sym (get_or-map (λ (k : Kept T). k.finding) ranked n last last.finding (omega (arith, size, long, full))) in
      subst (λ (l : List KeptFinding). IsLast most l last.finding)
      (take-map (λ (k : Kept T). k.finding) most ranked ∙ ap (λ (l : List (Kept T)). findings_of l) (sym e))
      (last_kept most n (findings_of kept) alone last.finding size some (by_weight_alone kept ranked h) (omega (arith, long, full, mapped)) found)

  pub chosen_shown : (most : ℕ) (found ranked first shown : List (Kept T)) → IsStableSort kept_weight found ranked → first ≡ first_findings most ranked → IsStableSort kept_position first shown
      → ShownFindings most (findings_of found) (findings_of shown)
  chosen_shown most found ranked first shown h e k =
      let either : (all : Bool) → findings_of (cond all ranked (take most ranked)) ≡ cond all (findings_of ranked) (take most (findings_of ranked)) =
      elim [ true ↦ refl | false ↦ sym (take-map (λ (k : Kept T). k.finding) most ranked) ] in (
        findings_of ranked,
        by_weight_alone found ranked h,
        subst (λ (l : List KeptFinding). IsStableSort position_order l (findings_of shown)) (ap (λ (l : List (Kept T)). findings_of l) e ∙ either (most == 0))
            (sorted_findings position_order positions_total first shown k),
      )

pub refused_after : (judged last : Option KeptFinding) (one l : KeptFinding) → judged ≡ Some one → last ≡ Some l → before one l ≡ false
    → (most : ℕ) (kept : List KeptFinding) → IfSome last (IsLast most kept) → ShowAlike most (kept ++ option_to_list judged) (kept ++ [])
refused_after judged last one l is is_last after most kept h =
    subst (λ o. ShowAlike most (kept ++ option_to_list o) (kept ++ [])) (sym is)
    (after_last most kept one l (subst (λ o. IfSome o (IsLast most kept)) is_last h) after)
