use Rattle.std.proofs.Common.{◌≡◌, ◌+◌, ◌*◌, ◌≤◌, ◌++◌, take}
use Rattle.dns_wire.specs.ZoneText.{zone_label}
use Rattle.dns_wire.proofs.zone_label.put_zone_octets.Given as goal

abbrev pub invariant-loop-octet : goal.invariant-loop-octet
invariant-loop-octet l = record {
  text : take l.end l.text ≡ take l.fn.at l.fn.text ++ zone_label (take l.octet-index l.octets);
  room : l.end ≤ l.fn.at + 4 * l.octet-index;
}
