use Rattle.std.proofs.Common.{◌≡◌, ◌+◌, drop}
use Rattle.zone_edit.specs.Serials.{first_differing}
use Rattle.zone_edit.proofs.serial.first_differing.Given as goal

abbrev pub invariant-loop-other : goal.invariant-loop-other
invariant-loop-other l = record {
  counted : l.index ≡ l.other-index + 1;
  value : first_differing l.first l.index (drop l.other-index l.others) ≡ first_differing l.first 1 l.others;
}
