use Rattle.std.proofs.Common.{◌≡◌, ◌≤◌, take}
use Rattle.zone_format.specs.Columns.{width_of}
use Rattle.finding_formats.proofs.excerpt.place_of.Given as goal

abbrev pub invariant-loop-at : goal.invariant-loop-at
invariant-loop-at l = record {
  passed : l.passed ≡ width_of (take l.at l.line);
  few : l.passed ≤ l.count;
  short : l.passed ≤ l.at;
}
