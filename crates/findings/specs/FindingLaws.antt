-- Laws of the findings that are shown.
use Rattle.std.specs.Prelude.{◌≡◌, ℕ, ◌-◌, ◌^◌, ◌<◌, ◌==◌, if◌then◌else◌, List, Option, Contains, length, min}
use Rattle.std.specs.List.{AllPairs}
use Rattle.finding_codes.specs.declared.code.Severity.{Severity}
use Rattle.finding_codes.specs.declared.code.Severity.TheVariants.{Error, Warning}
use Rattle.findings.specs.Collected.{counted_after, number_after}
use Rattle.findings.specs.FindingOrder.{IsStableSort, ShownFindings, place_order}
use Rattle.findings.specs.declared.collector.FoundFinding.{FoundFinding}
use Rattle.findings.specs.declared.finding_order.KeptFinding.{KeptFinding}

-- if a warning is shown, so is each error
abbrev pub ErrorsAreFirst : Type 0
ErrorsAreFirst = (most : ℕ) (found shown : List KeptFinding) (warning error : KeptFinding) → ShownFindings most found shown → warning.severity ≡ Warning → Contains shown warning → error.severity ≡ Error → Contains found error → Contains shown error

-- as many are shown as the number allows, or all if that is 0
abbrev pub MostAreShown : Type 0
MostAreShown = (most : ℕ) (found shown : List KeptFinding) → ShownFindings most found shown → length shown ≡ (if most == 0 then length found else min most (length found))

-- if no number is given, findings are shown by place alone, and those at one place as they were found
abbrev pub AllAreByPlace : Type 0
AllAreByPlace = (found shown : List KeptFinding) → AllPairs (λ a b. a.index < b.index) found → ShownFindings 0 found shown → IsStableSort place_order found shown

-- findings are numbered as they are found, below the greatest number
abbrev pub NumbersRise : Type 0
NumbersRise = (found : List FoundFinding) (severities : List (Option Severity)) → number_after 0 severities < 2 ^ 64 - 1 → AllPairs (λ a b. a.index < b.index) (counted_after 0 found severities)

-- of these findings one list can be shown
abbrev pub OneIsShown : Type 0
OneIsShown = (most : ℕ) (found shown other : List KeptFinding) → ShownFindings most found shown → ShownFindings most found other → shown ≡ other
