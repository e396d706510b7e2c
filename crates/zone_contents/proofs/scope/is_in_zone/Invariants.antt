use Rattle.std.proofs.Common.{◌≡◌, length}
use Rattle.zone_contents.specs.Hashed.{is_in_zone}
use Rattle.zone_contents.proofs.scope.is_in_zone.Given as goal

abbrev pub invariant-loop-above : goal.invariant-loop-above
invariant-loop-above g l = is_in_zone l.apex l.above ≡ is_in_zone l.apex l.name

abbrev pub decreases-loop-above : goal.decreases-loop-above
decreases-loop-above g l = length l.above
