use Rattle.std.proofs.Common.{◌≡◌, ◌++◌, take}
use Rattle.std.specs.List.{flat_map}
use Rattle.dns_octets.specs.Lowered.{lowered}
use Rattle.zone_record.specs.Keys.{key_octets}
use Rattle.zone_record.proofs.keys.push_key_label.Given as goal

abbrev pub invariant-loop-octet : goal.invariant-loop-octet
invariant-loop-octet g l = l.key.items ≡ l.fn.key.items ++ flat_map key_octets (lowered (take l.octet-index l.label))
