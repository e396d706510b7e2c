-- Worked examples: which findings are counted, and which are shown.
use Rattle.std.specs.Prelude.{◌≡◌, ℕ, [], ◌∷◌, Some, None, false, refl}
use Rattle.std.specs.declared.cmp.Ordering.TheVariants.{Less}
use Rattle.finding_codes.specs.declared.code.Code.TheVariants.{Ttl}
use Rattle.finding_codes.specs.declared.code.Severity.TheVariants.{Error, Warning}
use Rattle.findings.specs.declared.collector.FoundFinding.{FoundFinding}
use Rattle.findings.specs.declared.shown.Decision.TheVariants.{Shown, Counted, Omitted}
use Rattle.findings.specs.Collected.{counted_after, kept_finding, kept_if, number_after}
use Rattle.findings.specs.FindingOrder.{first_findings, position_order, weight_order}
use Rattle.findings.specs.Shown.{decisions_after}

-- two are shown, and one that is left out is not counted
two_shown : decisions_after 2 [] (Some Error ∷ None ∷ Some Warning ∷ Some Error ∷ []) ≡ Shown Error ∷ Omitted ∷ Shown Warning ∷ Counted Error ∷ []
two_shown = refl

-- of three findings two are shown, or all
first_two : first_findings 2 (Error ∷ Warning ∷ Error ∷ []) ≡ Error ∷ Warning ∷ []
first_two = refl

all_three : first_findings 0 (Error ∷ Warning ∷ Error ∷ []) ≡ Error ∷ Warning ∷ Error ∷ []
all_three = refl

-- of three findings the second is left out: the third is kept after one other
abbrev found_at : ℕ → FoundFinding
found_at line = record { file = 0; position = record { line = line; column = 1 }; code = Ttl; is_refused = false; is_excepted = false }

two_counted : counted_after 0 (found_at 7 ∷ found_at 2 ∷ found_at 5 ∷ []) (Some Warning ∷ None ∷ Some Error ∷ []) ≡ kept_finding 0 (found_at 7) Warning ∷ kept_finding 1 (found_at 5) Error ∷ []
two_counted = refl

-- an error comes before a warning by weight, wherever it is, and after it by position
error_outweighs : weight_order (kept_finding 1 (found_at 9) Error) (kept_finding 0 (found_at 2) Warning) ≡ Less
error_outweighs = refl

warning_is_before : position_order (kept_finding 0 (found_at 2) Warning) (kept_finding 1 (found_at 9) Error) ≡ Less
warning_is_before = refl

-- at one place the one that was found first comes first
first_is_before : position_order (kept_finding 0 (found_at 2) Warning) (kept_finding 1 (found_at 2) Error) ≡ Less
first_is_before = refl

two_are_counted : number_after 0 (Some Warning ∷ None ∷ Some Error ∷ []) ≡ 2
two_are_counted = refl

left_out : kept_if 3 (found_at 7) None ≡ None
left_out = refl
