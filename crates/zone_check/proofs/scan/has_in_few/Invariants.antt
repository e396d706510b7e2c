use Rattle.std.proofs.Common.{◌≡◌, drop}
use Rattle.std.specs.List.{list_any}
use Rattle.zone_check.specs.Scan.{is_kind}
use Rattle.zone_check.proofs.scan.has_in_few.Given as goal

abbrev pub invariant-loop-octet : goal.invariant-loop-octet
invariant-loop-octet l = list_any (is_kind l.kind) (drop l.octet-index l.octets) ≡ list_any (is_kind l.kind) l.octets
