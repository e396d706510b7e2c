use Rattle.std.proofs.Common.{◌≡◌, ◌++◌, false, drop}
use Rattle.zone_check.specs.Unportable.{escaped_from}
use Rattle.zone_check.proofs.unportable.escaped_name.Given as goal

abbrev pub invariant-loop-octet : goal.invariant-loop-octet
invariant-loop-octet l = l.name.items ++ escaped_from l.is_escaped (drop l.octet-index l.text) ≡ escaped_from false l.text
