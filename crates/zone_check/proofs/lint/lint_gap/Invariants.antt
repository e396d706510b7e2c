use Rattle.std.proofs.Common.{◌≡◌, ◌+◌, ◌++◌, ◌≤◌, drop}
use Rattle.zone_check.specs.Lint.{open_after, nested_remarks}
use Rattle.zone_check.proofs.lint.lint_gap.Given as goal

abbrev pub invariant-loop-place : goal.invariant-loop-place
invariant-loop-place g l = record {
  depth : open_after l.open (drop l.place l.gap) ≡ open_after l.depth l.gap;
  deep : l.open ≤ l.from + l.place;
  nested_remarks : l.found.items ++ nested_remarks l.open (l.from + l.place) (drop l.place l.gap) ≡ l.initial.found.items ++ nested_remarks l.depth l.from l.gap;
}
