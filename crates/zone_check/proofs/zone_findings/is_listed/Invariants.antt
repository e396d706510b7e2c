use Rattle.std.proofs.Common.{◌≡◌, drop}
use Rattle.std.specs.List.{list_any}
use Rattle.zone_check.specs.ZoneFindings.{is_same_directive}
use Rattle.zone_check.proofs.zone_findings.is_listed.Given as goal

abbrev pub invariant-loop-other : goal.invariant-loop-other
invariant-loop-other l = list_any (is_same_directive l.directive) (drop l.other-index l.seen) ≡ list_any (is_same_directive l.directive) l.seen
