use Rattle.std.proofs.Common.{◌≡◌, ◌+◌, ◌≤◌, ◌++◌, ℕ, List, take}
use Rattle.zone_format.specs.Place.{column_of, feeds}
use Rattle.zone_format.proofs.place.advance_by_one.Given as goal

abbrev pub invariant-loop-octet : goal.invariant-loop-octet
invariant-loop-octet l = record {
  lines : l.line ≡ l.initial.line + feeds (take l.octet-index l.octets);
  narrow : l.column ≤ l.initial.column + l.octet-index;
  columns : (before : List ℕ) → l.initial.column ≡ column_of before → l.column ≡ column_of (before ++ take l.octet-index l.octets);
}
