use Rattle.std.proofs.Common.{◌≡◌, false, drop}
use Rattle.zone_edit.specs.Lines.{ends_in_cr_lf}
use Rattle.zone_edit.proofs.lines.line_end.Given as goal

abbrev pub invariant-loop-octet : goal.invariant-loop-octet
invariant-loop-octet l = record {
  last : ends_in_cr_lf l.has_cr l.is_cr (drop l.octet-index l.front) ≡ ends_in_cr_lf false false l.front;
}
