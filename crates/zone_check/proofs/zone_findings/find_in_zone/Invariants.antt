use Rattle.std.proofs.Common.{◌≡◌, ◌++◌, drop}
use Rattle.zone_check.specs.ZoneFindings.{directives_after}
use Rattle.zone_check.proofs.ZoneSteps.{rest_of_zone}
use Rattle.zone_check.proofs.zone_findings.find_in_zone.Given as goal

abbrev pub invariant-loop-one : goal.invariant-loop-one
invariant-loop-one l =
    (l.found.items ++ rest_of_zone l.context l.seen.items (drop l.one-index l.broken) ≡ l.initial.found.items ++ rest_of_zone l.context l.initial.seen.items l.broken)
    × (directives_after l.seen.items (drop l.one-index l.broken) ≡ directives_after l.initial.seen.items l.broken)
