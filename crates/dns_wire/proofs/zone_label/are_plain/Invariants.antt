use Rattle.std.proofs.Common.{◌≡◌, take}
use Rattle.dns_wire.specs.ZoneText.{zone_label}
use Rattle.dns_wire.proofs.zone_label.are_plain.Given as goal

abbrev pub invariant-loop-octet : goal.invariant-loop-octet
invariant-loop-octet l = zone_label (take l.octet-index l.label) ≡ take l.octet-index l.label
