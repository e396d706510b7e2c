use Rattle.std.proofs.Common.{◌≡◌, ◌-◌, false, take}
use Rattle.std.specs.List.{list_any}
use Rattle.zone_check.specs.Scan.{is_kind}
use Rattle.zone_check.proofs.scan.has_kind.Given as goal

abbrev pub invariant-loads : goal.invariant-loads
invariant-loads l = list_any (is_kind l.kind) (take l.start l.octets) ≡ false

abbrev pub decreases-loads : goal.decreases-loads
decreases-loads l = l.last - l.start
