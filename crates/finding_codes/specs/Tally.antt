-- How findings are counted, and which of them are shown.
use Rattle.std.specs.Prelude.{◌≡◌, ℕ, ◌+◌, ◌-◌, ◌^◌, ◌==◌, ◌&&◌, ◌||◌, nat_lt, min, if◌then◌else◌, Bool, true, false, List, [], ◌++◌, length, codes}
use Rattle.std.specs.List.{count_by}
use Rattle.std.specs.Fmt.{decimal}
use Rattle.finding_codes.specs.declared.code.Severity.{Severity}
use Rattle.finding_codes.specs.declared.code.Severity.TheVariants.{Error, Warning}
use Rattle.finding_codes.specs.declared.tally.Tally.{Tally}

abbrev pub is_error : Severity → Bool
is_error Error = true
is_error Warning = false

abbrev pub is_warning : Severity → Bool
is_warning Error = false
is_warning Warning = true

-- the counts of these findings; each is limited to the greatest number
pub record IsTally (found : List Severity) (t : Tally) : Type 0 where
  pub errors : t.errors ≡ min (count_by is_error found) (2 ^ 64 - 1)
  pub warnings : t.warnings ≡ min (count_by is_warning found) (2 ^ 64 - 1)

-- whether a finding is shown after these: the first ones are, or all
abbrev pub shows : (most : ℕ) → (before : List Severity) → Bool
shows most before = most == 0 || nat_lt (length before) most

-- the same by the counts
abbrev pub has_room : (most errors warnings : ℕ) → Bool
has_room most errors warnings = most == 0 || nat_lt (min (errors + warnings) (2 ^ 64 - 1)) most

-- the number of findings that are not shown
abbrev pub hidden : (most errors warnings : ℕ) → ℕ
hidden most errors warnings = if most == 0 then 0 else min (errors + warnings) (2 ^ 64 - 1) - most

abbrev pub hidden_text : ℕ → List ℕ
hidden_text n = if n == 0 then [] else codes ", " ++ decimal n ++ codes " not shown"

-- a number and the noun that it counts
abbrev pub counted_text : ℕ → List ℕ → List ℕ
counted_text n word = decimal n ++ word ++ (if n == 1 then [] else codes "s")

-- such as `3 errors, 1 warning, 2 not shown`
abbrev pub summary : (most errors warnings : ℕ) → List ℕ
summary most errors warnings = if errors == 0 && warnings == 0 then []
    else counted_text errors (codes " error") ++ codes ", " ++ counted_text warnings (codes " warning") ++ hidden_text (hidden most errors warnings) ++ codes "\n"
