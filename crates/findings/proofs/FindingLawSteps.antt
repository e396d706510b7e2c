-- Laws of the findings that are shown.
use Rattle.std.proofs.Common.{◌≡◌, inl, inr, ℕ, zero, suc, ◌==◌, Bool, true, false, cond, List, [], ◌∷◌, Contains, length, length-take, min, take, drop, is_lt, refl, sym, ap, ap₂, subst, ◌∙◌, arith}
use Rattle.std.specs.Cmp.{IsStrictWeakOrder, IsTotalOrder}
use Rattle.std.specs.Ordering.{nat_cmp, ordering_then}
use Rattle.std.specs.declared.cmp.Ordering.{Ordering}
use Rattle.std.proofs.lemmas.Bool.{both_ways}
use Rattle.std.proofs.lemmas.List.{take-append-drop}
use Rattle.std.proofs.lemmas.List.Elements.{All-contains, All-drop, All-from_recursion, Contains-append_cases}
use Rattle.std.proofs.lemmas.List.Sorted.{Contains-permutation, IsPermutation-sym, length_permutation, ranks_by}
use Rattle.finding_codes.specs.declared.code.Severity.TheVariants.{Error, Warning}
use Rattle.findings.specs.declared.finding_order.KeptFinding.{KeptFinding}
use Rattle.findings.specs.FindingLaws.{ErrorsAreFirst, MostAreShown, OneIsShown}
use Rattle.findings.specs.FindingOrder.{IsStableSort, first_findings, position_order, severity_rank, weight_order}
use Rattle.findings.proofs.PlaceOrders.{positions_total, weights_total}
use Rattle.findings.proofs.StableSorts.{Rising, one_sort, rising_if_sorted}

module _ {X : Type 0} (lt : X → X → Bool) where
  -- what is beyond the first ones is less than none of them
  across : (n : ℕ) (l : List X) (x y : X) → Rising lt l → Contains (take n l) x → Contains (drop n l) y → lt y x ≡ false
  across zero l x y h a b = absurd (let e = a.1 in omega (arith, e))
  across (suc n) [] x y h a b = absurd (let e = a.1 in omega (arith, e))
  across (suc n) (z ∷ zs) x y h (zero, inside, is) b =
      subst (λ w. lt y w ≡ false) is (All-contains (λ w. lt w z ≡ false) (drop n zs) y (All-drop (λ w. lt w z ≡ false) n zs (All-from_recursion (λ w. lt w z ≡ false) zs h.0)) b)
  across (suc n) (z ∷ zs) x y h (suc k, inside, is) b = across n zs x y h.1 (k, omega (arith, inside), is) b

abbrev before : KeptFinding → KeptFinding → Bool
before a b = is_lt (weight_order a b)

ordered : IsStrictWeakOrder before
ordered = ranks_by weights_total (λ r. r)

error_first : (error warning : KeptFinding) → error.severity ≡ Error → warning.severity ≡ Warning → before error warning ≡ true
error_first error warning e w = ap₂ (λ a b. is_lt (ordering_then (nat_cmp (severity_rank a) (severity_rank b)) (position_order error warning))) e w

chosen : (all : Bool) (n : ℕ) (l : List KeptFinding) (x y : KeptFinding) → Rising before l → before y x ≡ true → Contains (cond all l (take n l)) x → Contains l y → Contains (cond all l (take n l)) y
chosen true n l x y h less a b = b
chosen false n l x y h less a b =
    elim (Contains-append_cases (take n l) (drop n l) y (subst (λ k. Contains k y) (sym (take-append-drop n l)) b))
    [ inl first ↦ first | inr beyond ↦ absurd (both_ways (before y x) (across before n l x y h a beyond) less) ]

pub errors_are_first : ErrorsAreFirst
errors_are_first most found shown warning error s is_warning warning_in is_error error_in =
    let ranked : List KeptFinding = s.0 in
    let first : List KeptFinding = first_findings most ranked in
    let by_weight : IsStableSort weight_order found ranked = s.1 in
    let by_position : IsStableSort position_order first shown = s.2 in
    Contains-permutation first shown error by_position.permutation
    (chosen (most == 0) most ranked warning error (rising_if_sorted before ordered ranked by_weight.in_order) (error_first error warning is_error is_warning)
    (Contains-permutation shown first warning (IsPermutation-sym first shown by_position.permutation) warning_in)
    (Contains-permutation found ranked error by_weight.permutation error_in))

counted : (all : Bool) (n : ℕ) (l : List KeptFinding) → length (cond all l (take n l)) ≡ cond all (length l) (min n (length l))
counted true n l = refl
counted false n l = length-take n l

pub most_are_shown : MostAreShown
most_are_shown most found shown s =
    let ranked : List KeptFinding = s.0 in
    length_permutation (first_findings most ranked) shown s.2.permutation
    ∙ counted (most == 0) most ranked
    ∙ ap (λ n. cond (most == 0) n (min most n)) (length_permutation found ranked s.1.permutation)

pub one_sorted : (order : KeptFinding → KeptFinding → Ordering) → IsTotalOrder order → (found a b : List KeptFinding) → IsStableSort order found a → IsStableSort order found b → a ≡ b
one_sorted order total found a b h k =
    let less : KeptFinding → KeptFinding → Bool = λ x y. is_lt (order x y) in
    let o : IsStrictWeakOrder less = ranks_by total (λ r. r) in
    one_sort less o a b (rising_if_sorted less o a h.in_order) (rising_if_sorted less o b k.in_order) (λ t. h.stable t ∙ sym (k.stable t))

pub one_is_shown : OneIsShown
one_is_shown most found shown other s o =
    let same : s.0 ≡ o.0 = one_sorted weight_order weights_total found s.0 o.0 s.1 o.1 in
    one_sorted position_order positions_total (first_findings most o.0) shown other
    (subst (λ (l : List KeptFinding). IsStableSort position_order (first_findings most l) shown) same s.2) o.2
