-- The counts of errors and warnings, and the number of findings.
use Rattle.std.proofs.Common.{◌≡◌, ℕ, ◌+◌, ◌≤◌, ◌==◌, List, [], ◌∷◌, length, refl, sym, ap, ◌∙◌, arith, inl, inr, cond}
use Rattle.std.specs.Prelude.{◌||◌, nat_lt, min}
use Rattle.std.specs.List.{count_by}
use Rattle.std.proofs.lemmas.Bool.{cases_lt, lt-ltb, le-ltb}
use Rattle.std.proofs.lemmas.List.Sums.{sum_by-cons}
use Rattle.finding_codes.specs.declared.code.Severity.{Severity}
use Rattle.finding_codes.specs.declared.code.Severity.TheVariants.{Error, Warning}
use Rattle.finding_codes.specs.Tally.{is_error, is_warning, shows}

all_counted : (found : List Severity) → count_by is_error found + count_by is_warning found ≡ length found
all_counted [] = refl
all_counted (Error ∷ found) = omega (arith, all_counted found, sum_by-cons (λ s. cond (is_error s) 1 0) Error found, sum_by-cons (λ s. cond (is_warning s) 1 0) Error found)
all_counted (Warning ∷ found) = omega (arith, all_counted found, sum_by-cons (λ s. cond (is_error s) 1 0) Warning found, sum_by-cons (λ s. cond (is_warning s) 1 0) Warning found)

-- limiting counts to a greatest number does not change whether they are below a number up to that
same_below : (e w n most greatest : ℕ) → e + w ≡ n → most ≤ greatest → nat_lt (min (min e greatest + min w greatest) greatest) most ≡ nat_lt n most
same_below e w n most greatest all small = elim (cases_lt n most) [
  | inl below ↦ lt-ltb (min (min e greatest + min w greatest) greatest) most (omega (arith, all, small, below)) ∙ sym (lt-ltb n most below)
  | inr above ↦ le-ltb (min (min e greatest + min w greatest) greatest) most (omega (arith, all, small, above)) ∙ sym (le-ltb n most above)
]

pub room_shows : (found : List Severity) (most errors warnings greatest : ℕ) → errors ≡ min (count_by is_error found) greatest → warnings ≡ min (count_by is_warning found) greatest → most ≤ greatest
    → (most == 0 || nat_lt (min (errors + warnings) greatest) most) ≡ shows most found
room_shows found most errors warnings greatest e w small =
    ap (λ b. most == 0 || b) (ap (λ n. nat_lt (min (n + warnings) greatest) most) e ∙ ap (λ n. nat_lt (min (min (count_by is_error found) greatest + n) greatest) most) w
    ∙ same_below (count_by is_error found) (count_by is_warning found) (length found) most greatest (all_counted found) small)
