use Rattle.std.proofs.Common.{◌≡◌, drop}
use Rattle.zone_edit.specs.Serials.{are_decimal}
use Rattle.zone_edit.proofs.serial.are_decimal.Given as goal

abbrev pub invariant-loop-octet : goal.invariant-loop-octet
invariant-loop-octet l = are_decimal (drop l.octet-index l.octets) ≡ are_decimal l.octets
