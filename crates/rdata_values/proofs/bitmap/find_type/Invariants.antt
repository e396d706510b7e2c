use Rattle.std.proofs.Common.{◌≡◌, ◌≤◌, length}
use Rattle.rdata_values.specs.RemainingTypes.{remaining_types}
use Rattle.rdata_values.proofs.bitmap.find_type.Given as goal

abbrev pub invariant-loop-place : goal.invariant-loop-place
invariant-loop-place l = (l.cursor.place ≤ 256) × (remaining_types l.from ≡ remaining_types l.cursor)

abbrev pub decreases-loop-place : goal.decreases-loop-place
decreases-loop-place l = length l.cursor.rest.now
