-- The number of findings of each severity and code, and the order of these numbers.
use Rattle.std.specs.Prelude.{◌≡◌, ℕ, suc, ◌+◌, ◌-◌, ◌^◌, ◌==◌, min, if◌then◌else◌, List, length, fold}
use Rattle.std.specs.Cmp.Lexicographic.{slice_cmp}
use Rattle.std.specs.Ordering.{is_lt, nat_cmp, ordering_then}
use Rattle.std.specs.declared.cmp.Ordering.{Ordering}
use Rattle.finding_codes.specs.Code.{code_name}
use Rattle.finding_codes.specs.declared.code.Severity.{Severity}
use Rattle.finding_codes.specs.declared.code.Severity.TheVariants.{Error, Warning}
use Rattle.finding_counts.specs.declared.code_count.CodeCount.{CodeCount}
use Rattle.finding_counts.specs.declared.code_count.CodeRow.{CodeRow}
use Rattle.finding_counts.specs.declared.code_count.FindingPlace.{FindingPlace}

-- by zone, by file as read, by line, by column
abbrev pub run_place_order : FindingPlace → FindingPlace → Ordering
run_place_order a b = ordering_then (ordering_then (ordering_then (nat_cmp a.zone b.zone) (nat_cmp a.file b.file)) (nat_cmp a.position.line b.position.line)) (nat_cmp a.position.column b.position.column)

-- the earlier of two places, the one before if they are equal
abbrev pub earlier_place : FindingPlace → FindingPlace → FindingPlace
earlier_place before place = if is_lt (run_place_order place before) then place else before

-- the first by place of one and of those that are counted after it
abbrev pub first_place : FindingPlace → List FindingPlace → FindingPlace
first_place one found = fold earlier_place one found

-- the number of one finding and of those that are counted after it, up to the greatest number, and the first of them
pub record IsCountOf (one : FindingPlace) (found : List FindingPlace) (c : CodeCount) : Type 0 where
  pub findings : c.findings ≡ min (suc (length found)) (2 ^ 64 - 1)
  pub first : c.first ≡ first_place one found

-- a zone is counted once, if its findings are counted one after another
abbrev pub zones_after : FindingPlace → CodeCount → ℕ
zones_after place c = if c.last_zone == place.zone then c.zones else min (c.zones + 1) (2 ^ 64 - 1)

abbrev pub count_rank : Severity → ℕ
count_rank Error = 0
count_rank Warning = 1

-- errors first, then the greater number, then the codes by name
abbrev pub count_order : CodeCount → CodeCount → Ordering
count_order a b = ordering_then (ordering_then (nat_cmp (count_rank a.severity) (count_rank b.severity)) (nat_cmp b.findings a.findings)) (slice_cmp nat_cmp (code_name a.code) (code_name b.code))

-- the files change no order
abbrev pub row_order : {T : Type 0} → CodeRow T → CodeRow T → Ordering
row_order a b = count_order a.count b.count
