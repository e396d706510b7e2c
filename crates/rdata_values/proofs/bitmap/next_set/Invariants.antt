use Rattle.std.proofs.Common.{◌≡◌, ◌-◌, ◌≤◌}
use Rattle.rdata_values.specs.Bitmap.{set_places}
use Rattle.rdata_values.proofs.bitmap.next_set.Given as goal

-- no bit is set before the index, which may be past the end at the beginning
abbrev pub invariant-loop-place : goal.invariant-loop-place
invariant-loop-place l = (l.place ≤ 256) × (set_places l.octets l.from (256 - l.from) ≡ set_places l.octets l.place (256 - l.place))
