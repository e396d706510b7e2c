-- Which findings are shown: by what is allowed, denied and excepted, and up to a number.
use Rattle.std.specs.Prelude.{◌≡◌, ◌⊎◌, ℕ, ◌==◌, ◌&&◌, not, if◌then◌else◌, Bool, true, false, List, [], ◌∷◌, ◌++◌, Contains, take, option_to_list, Option, Some, None}
use Rattle.finding_codes.specs.Code.{default_severity, is_text_fault}
use Rattle.finding_codes.specs.Tally.{shows}
use Rattle.finding_codes.specs.declared.code.Code.{Code}
use Rattle.finding_codes.specs.declared.code.Severity.{Severity}
use Rattle.finding_codes.specs.declared.code.Severity.TheVariants.{Error}
use Rattle.finding_codes.specs.declared.policy.Policy.{Policy}
use Rattle.findings.specs.declared.shown.Decision.{Decision}
use Rattle.findings.specs.declared.shown.Decision.TheVariants.{Shown, Counted, Omitted}

-- neither malformed text nor what keeps a record from being read
abbrev pub can_be_excepted : Code → (is_refused : Bool) → Bool
can_be_excepted code is_refused = not is_refused && not (is_text_fault code)

-- the severity of a finding that is counted, or none: the first of these that applies decides
pub record IsSeverity (p : Policy) (code : Code) (is_refused is_excepted : Bool) (r : Option Severity) : Type 0 where
  pub always : can_be_excepted code is_refused ≡ false → r ≡ Some Error
  pub excepted : can_be_excepted code is_refused ≡ true → is_excepted ≡ true → r ≡ None
  pub allowed : can_be_excepted code is_refused ≡ true → Contains p.allowed.now code → r ≡ None
  pub denied : can_be_excepted code is_refused ≡ true → is_excepted ≡ false → ¬ (Contains p.allowed.now code) → Contains p.denied.now code ⊎ (p.is_strict ≡ true) → r ≡ Some Error
  pub other : can_be_excepted code is_refused ≡ true → is_excepted ≡ false → ¬ (Contains p.allowed.now code) → ¬ (Contains p.denied.now code) → p.is_strict ≡ false → r ≡ Some (default_severity code)

-- what becomes of a finding after others of these severities: the first `most` are shown, or all if that is 0
abbrev pub decision_for : (most : ℕ) → (before : List Severity) → Option Severity → Decision
decision_for most before None = Omitted
decision_for most before (Some s) = if shows most before then Shown s else Counted s

-- what becomes of findings, one after another
abbrev pub decisions_after : (most : ℕ) → (before : List Severity) → List (Option Severity) → List Decision
decisions_after most before [] = []
decisions_after most before (s ∷ found) = decision_for most before s ∷ decisions_after most (before ++ option_to_list s) found

-- the severities that are counted, and those that are shown
abbrev pub counted_severities : List (Option Severity) → List Severity
counted_severities [] = []
counted_severities (None ∷ found) = counted_severities found
counted_severities (Some s ∷ found) = s ∷ counted_severities found

abbrev pub shown_severities : List Decision → List Severity
shown_severities [] = []
shown_severities (Shown s ∷ decisions) = s ∷ shown_severities decisions
shown_severities (Counted s ∷ decisions) = shown_severities decisions
shown_severities (Omitted ∷ decisions) = shown_severities decisions

-- of the findings that are counted, the first are shown, up to a number, or all if that is 0
abbrev pub FirstAreShown : Type 0
FirstAreShown = (most : ℕ) (found : List (Option Severity)) → shown_severities (decisions_after most [] found) ≡ (if most == 0 then counted_severities found else take most (counted_severities found))
