-- Of the findings that are counted, the first are shown.
use Rattle.std.proofs.Common.{◌≡◌, ℕ, zero, suc, ◌+◌, ◌-◌, ◌==◌, ◌||◌, nat_lt, Bool, true, false, cond, List, [], ◌∷◌, ◌++◌, Option, Some, None, length, take, refl, sym, ap, ◌∙◌, arith, append-nil, length-append, ltb-true, ltb-false}
use Rattle.finding_codes.specs.declared.code.Severity.{Severity}
use Rattle.finding_codes.specs.Tally.{shows}
use Rattle.findings.specs.declared.shown.Decision.{Decision}
use Rattle.findings.specs.declared.shown.Decision.TheVariants.{Shown, Counted}
use Rattle.findings.specs.Shown.{FirstAreShown, counted_severities, decisions_after, shown_severities}

take_none : (n : ℕ) (xs : List Severity) → xs ≡ [] → take n xs ≡ []
take_none zero xs e = refl
take_none (suc n) xs e = ap (take (suc n)) e

none_found : (b : Bool) (n : ℕ) (xs : List Severity) → xs ≡ [] → xs ≡ cond b xs (take n xs)
none_found true n xs e = refl
none_found false n xs e = e ∙ sym (take_none n xs e)

shown_next : (b : Bool) (s : Severity) (ds : List Decision) → shown_severities (cond b (Shown s) (Counted s) ∷ ds) ≡ cond b (s ∷ shown_severities ds) (shown_severities ds)
shown_next true s ds = refl
shown_next false s ds = refl

-- one more: all are shown, or another is within the number, or the number is reached
counted_next : (all b : Bool) (n more : ℕ) (s : Severity) (xs : List Severity) → (b ≡ true → n ≡ suc more) → (b ≡ false → (n ≡ 0) × (more ≡ 0))
    → cond (all || b) (s ∷ cond all xs (take more xs)) (cond all xs (take more xs)) ≡ cond all (s ∷ xs) (take n (s ∷ xs))
counted_next true b n more s xs up down = refl
counted_next false true n more s xs up down = sym (ap (λ k. take k (s ∷ xs)) (up refl))
counted_next false false n more s xs up down = let reached = down refl in ap (λ k. take k xs) reached.1 ∙ sym (ap (λ k. take k (s ∷ xs)) reached.0)

module _ (most : ℕ) where
  abbrev first : ℕ → List Severity → List Severity
  first n xs = cond (most == 0) xs (take (most - n) xs)

  shown_after : (before : List Severity) (found : List (Option Severity)) → shown_severities (decisions_after most before found) ≡ first (length before) (counted_severities found)
  shown_after before [] = none_found (most == 0) (most - length before) [] refl
  shown_after before (None ∷ found) = shown_after (before ++ []) found ∙ ap (λ (l : List Severity). first (length l) (counted_severities found)) (append-nil before)
  shown_after before (Some s ∷ found) =
      let xs : List Severity = counted_severities found in
      let long : length (before ++ s ∷ []) ≡ length before + 1 = length-append before (s ∷ []) in
      let later : shown_severities (decisions_after most (before ++ s ∷ []) found) ≡ first (length before + 1) xs = shown_after (before ++ s ∷ []) found ∙ ap (λ n. first n xs) long in
      shown_next (shows most before) s (decisions_after most (before ++ s ∷ []) found)
      ∙ ap (λ l. cond (shows most before) (s ∷ l) l) later
      ∙ counted_next (most == 0) (nat_lt (length before) most) (most - length before) (most - (length before + 1)) s xs
      (λ e. let lt = ltb-true (length before) most e in omega (arith, lt))
      (λ e. let le = ltb-false (length before) most e in (omega (arith, le), omega (arith, le)))

pub first_are_shown : FirstAreShown
first_are_shown most found =
    let xs : List Severity = counted_severities found in
    let same : most - 0 ≡ most = omega arith in
    shown_after most [] found ∙ ap (λ n. cond (most == 0) xs (take n xs)) same
