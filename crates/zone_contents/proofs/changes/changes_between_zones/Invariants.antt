use Rattle.std.proofs.Common.{◌+◌, length}
use Rattle.zone_contents.specs.Steps.{distinct_from}
use Rattle.zone_contents.proofs.ComparedZones.{Comparing}
use Rattle.zone_contents.proofs.changes.changes_between_zones.Given as goal

abbrev pub invariant-loop-step : goal.invariant-loop-step
invariant-loop-step g l = Comparing l.old l.new l.from l.to l.changes.items

abbrev pub decreases-loop-step : goal.decreases-loop-step
decreases-loop-step g l = length (distinct_from l.old l.from) + length (distinct_from l.new l.to)
