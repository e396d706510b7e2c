-- Findings that are collected in the order in which they are found, until all are known.
use Rattle.std.specs.Prelude.{◌≡◌, ℕ, ◌+◌, ◌-◌, ◌*◌, ◌^◌, ◌<◌, ◌≤◌, min, length, List, [], ◌∷◌, ◌++◌, false, Option, Some, None, option_to_list}
use Rattle.std.specs.List.{AllZip}
use Rattle.std.specs.Option.{IfSome}
use Rattle.std.specs.Ordering.{is_lt}
use Rattle.finding_codes.specs.Tally.{IsTally}
use Rattle.finding_codes.specs.declared.code.Severity.{Severity}
use Rattle.finding_codes.specs.declared.policy.Policy.{Policy}
use Rattle.findings.specs.declared.collector.FindingCollector.{FindingCollector}
use Rattle.findings.specs.declared.collector.FoundFinding.{FoundFinding}
use Rattle.findings.specs.declared.finding_order.Kept.{Kept}
use Rattle.findings.specs.declared.finding_order.KeptFinding.{KeptFinding}
use Rattle.findings.specs.FindingOrder.{ShownFindings, findings_of, weight_order}
use Rattle.findings.specs.Shown.{IsSeverity, counted_severities}

-- the severity of each of these findings, or that it is left out
abbrev pub AreSeverities : Policy → List FoundFinding → List (Option Severity) → Type 0
AreSeverities p found severities = AllZip (λ f s. IsSeverity p f.code f.is_refused f.is_excepted s) found severities

-- a finding that is counted, with its severity and the number of those before it
abbrev pub kept_finding : (index : ℕ) → FoundFinding → Severity → KeptFinding
kept_finding index f s = record { file = f.file; position = f.position; index = index; code = f.code; severity = s }

-- none if it is left out
abbrev pub kept_if : (index : ℕ) → FoundFinding → Option Severity → Option KeptFinding
kept_if index f None = None
kept_if index f (Some s) = Some (kept_finding index f s)

-- one more, up to the greatest number
abbrev pub next_number : ℕ → ℕ
next_number number = min (number + 1) (2 ^ 64 - 1)

-- those of these findings that are counted, each once, after a number of others
abbrev pub counted_after : (before : ℕ) → List FoundFinding → List (Option Severity) → List KeptFinding
counted_after before [] severities = []
counted_after before (f ∷ found) [] = []
counted_after before (f ∷ found) (None ∷ severities) = counted_after before found severities
counted_after before (f ∷ found) (Some s ∷ severities) = kept_finding before f s ∷ counted_after (next_number before) found severities

-- the number of findings that are counted, after a number of others
abbrev pub number_after : (before : ℕ) → List (Option Severity) → ℕ
number_after before [] = before
number_after before (None ∷ severities) = number_after before severities
number_after before (Some s ∷ severities) = number_after (next_number before) severities

-- the same findings are shown of those that are kept as of all, whatever is found after them
abbrev pub ShowAlike : (most : ℕ) → (found kept : List KeptFinding) → Type 0
ShowAlike most found kept = (more shown : List KeptFinding) → ShownFindings most (kept ++ more) shown → ShownFindings most (found ++ more) shown

-- no finding that is not before this one by weight is shown, whatever is found before or after it
abbrev pub IsLast : (most : ℕ) → (kept : List KeptFinding) → (last : KeptFinding) → Type 0
IsLast most kept last = (more : List KeptFinding) (one : KeptFinding) → is_lt (weight_order one last) ≡ false → ShowAlike most ((kept ++ more) ++ one ∷ []) (kept ++ more)

-- the same of a finding that may be missing
abbrev pub IsLastIfAny : (most : ℕ) → (kept : List KeptFinding) → (last : Option KeptFinding) → Type 0
IsLastIfAny most kept last = IfSome last (IsLast most kept)

-- one finding more is shown as another would be, or as none
abbrev pub AreShownAlike : (last one other : Option KeptFinding) → Type 0
AreShownAlike last one other = (most : ℕ) (kept : List KeptFinding) → IsLastIfAny most kept last → ShowAlike most (kept ++ option_to_list one) (kept ++ option_to_list other)

-- at most twice the number that is shown, unless all are
abbrev pub IsFew : {X : Type 0} → (most : ℕ) → (kept : List X) → Type 0
IsFew most kept = 0 < most → length kept ≤ 2 * most

-- what a finding is judged to be, if it may be shown
abbrev pub IsJudged : Policy → (index : ℕ) → FoundFinding → Option KeptFinding → Type 0
IsJudged p index f judged = (severity : Option Severity) × IsSeverity p f.code f.is_refused f.is_excepted severity × IfSome judged (λ k. kept_if index f severity ≡ Some k)

-- what a collector has after these findings
pub record HasCollected {T : Type 0} (found : List FoundFinding) (c : FindingCollector T) : Type 0 where
  pub severities : List (Option Severity)
  pub judged : AreSeverities c.policy found severities
  pub kept : ShowAlike c.tally.most (counted_after 0 found severities) (findings_of c.kept.items)
  pub number : c.number ≡ number_after 0 severities
  pub tallied : IsTally (counted_severities severities) c.tally
  pub last : IsLastIfAny c.tally.most (findings_of c.kept.items) c.last

-- the same before the last of these findings is kept, if it may be shown
pub record HasJudged {T : Type 0} (found : List FoundFinding) (one : Option KeptFinding) (c : FindingCollector T) : Type 0 where
  pub severities : List (Option Severity)
  pub judged : AreSeverities c.policy found severities
  pub kept : ShowAlike c.tally.most (counted_after 0 found severities) (findings_of c.kept.items ++ option_to_list one)
  pub number : c.number ≡ number_after 0 severities
  pub tallied : IsTally (counted_severities severities) c.tally
  pub last : IsLastIfAny c.tally.most (findings_of c.kept.items) c.last

-- a collector after a finding that was judged
abbrev pub HasOneMore : {T : Type 0} → FoundFinding → Option KeptFinding → (before after : FindingCollector T) → Type 0
HasOneMore f one before after = (found : List FoundFinding) → HasCollected found before → HasJudged (found ++ f ∷ []) one after

-- a collector after the finding that was judged last is kept
abbrev pub HasKept : {T : Type 0} → KeptFinding → (before after : FindingCollector T) → Type 0
HasKept one before after = (found : List FoundFinding) → HasJudged found (Some one) before → HasCollected found after

-- and if it could not be kept
abbrev pub HasNotKept : {T : Type 0} → KeptFinding → (before after : FindingCollector T) → Type 0
HasNotKept one before after = (found : List FoundFinding) → HasJudged found (Some one) before → HasJudged found (Some one) after

-- a collector after a finding that was counted, but could not be kept
abbrev pub HasOneUnkept : {T : Type 0} → FoundFinding → (before after : FindingCollector T) → Type 0
HasOneUnkept f before after = (one : KeptFinding) × IsJudged before.policy before.number f (Some one) × ((found : List FoundFinding) → HasCollected found before → HasJudged (found ++ f ∷ []) (Some one) after)

-- exactly those of these findings that are shown
abbrev pub ShownOf : Policy → (most : ℕ) → List FoundFinding → (shown : List KeptFinding) → Type 0
ShownOf p most found shown = (severities : List (Option Severity)) × AreSeverities p found severities × ShownFindings most (counted_after 0 found severities) shown

-- of all findings that a collector has, these are shown
abbrev pub AreShownOf : {T : Type 0} → FindingCollector T → (shown : List (Kept T)) → Type 0
AreShownOf c shown = (found : List FoundFinding) → HasCollected found c → ShownOf c.policy c.tally.most found (findings_of shown)
