use Rattle.std.proofs.Common.{◌≡◌, ◌≤◌, take}
use Rattle.zone_format.specs.Columns.{width_of}
use Rattle.zone_format.proofs.columns.width.Given as goal

abbrev pub invariant-loop-octet : goal.invariant-loop-octet
invariant-loop-octet l = record {
  width : l.count ≡ width_of (take l.octet-index l.octets);
  few : l.count ≤ l.octet-index;
}
