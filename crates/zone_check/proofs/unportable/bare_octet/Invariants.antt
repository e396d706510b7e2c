use Rattle.std.proofs.Common.{◌≡◌, drop}
use Rattle.zone_check.specs.Unportable.{bare_from, bare_octet}
use Rattle.zone_check.proofs.unportable.bare_octet.Given as goal

abbrev pub invariant-loop-octet : goal.invariant-loop-octet
invariant-loop-octet l = bare_from l.is_escaped (drop l.octet-index l.text) ≡ bare_octet l.text
