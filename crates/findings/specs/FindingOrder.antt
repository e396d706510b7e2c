-- Which findings are chosen, errors first, and the order in which they are shown: by file as read, then by line, and then by column.
use Rattle.std.specs.Prelude.{ℕ, ◌==◌, if◌then◌else◌, List, Contains, map, take}
use Rattle.std.specs.List.Sorted.{IsPermutation, IsSorted, IsStable}
use Rattle.std.specs.Ordering.{nat_cmp, ordering_then}
use Rattle.std.specs.declared.cmp.Ordering.{Ordering}
use Rattle.finding_codes.specs.declared.code.Severity.{Severity}
use Rattle.finding_codes.specs.declared.code.Severity.TheVariants.{Error, Warning}
use Rattle.findings.specs.declared.finding_order.Kept.{Kept}
use Rattle.findings.specs.declared.finding_order.KeptFinding.{KeptFinding}

-- errors come before warnings
abbrev pub severity_rank : Severity → ℕ
severity_rank Error = 0
severity_rank Warning = 1

-- the files are compared first, by the number of files before them
abbrev pub place_order : KeptFinding → KeptFinding → Ordering
place_order a b = ordering_then (ordering_then (nat_cmp a.file b.file) (nat_cmp a.position.line b.position.line)) (nat_cmp a.position.column b.position.column)

-- by place; at one place the one that was found first comes first
abbrev pub position_order : KeptFinding → KeptFinding → Ordering
position_order a b = ordering_then (place_order a b) (nat_cmp a.index b.index)

-- errors first, and those of one severity by position
abbrev pub weight_order : KeptFinding → KeptFinding → Ordering
weight_order a b = ordering_then (nat_cmp (severity_rank a.severity) (severity_rank b.severity)) (position_order a b)

-- the texts of findings change no order
abbrev pub kept_position : {T : Type 0} → Kept T → Kept T → Ordering
kept_position a b = position_order a.finding b.finding

abbrev pub kept_weight : {T : Type 0} → Kept T → Kept T → Ordering
kept_weight a b = weight_order a.finding b.finding

-- the findings alone
abbrev pub findings_of : {T : Type 0} → List (Kept T) → List KeptFinding
findings_of {T} kept = map (λ (k : Kept T). k.finding) kept

-- a finding with its text
abbrev pub with_text : {T : Type 0} → KeptFinding → T → Kept T
with_text finding text = record { finding = finding; text = text }

-- each of these is one of those
abbrev pub AreAmong : {X : Type 0} → (these those : List X) → Type 0
AreAmong {X} these those = (x : X) → Contains these x → Contains those x

-- the same findings in this order; those that it does not tell apart stay as they were
pub record IsStableSort {X : Type 0} (order : X → X → Ordering) (found sorted : List X) : Type 0 where
  pub permutation : IsPermutation found sorted
  pub stable : IsStable order found sorted
  pub in_order : IsSorted order sorted

-- the first ones, up to a number, or all if that is 0
abbrev pub first_findings : {A : Type 0} → (most : ℕ) → List A → List A
first_findings most found = if most == 0 then found else take most found

-- of the findings that are counted, those that are shown, each once: the first by weight, in the order of their positions
abbrev pub ShownFindings : (most : ℕ) → (found shown : List KeptFinding) → Type 0
ShownFindings most found shown = (ranked : List KeptFinding) × IsStableSort weight_order found ranked × IsStableSort position_order (first_findings most ranked) shown
