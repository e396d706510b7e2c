use Rattle.std.proofs.Common.{ℕ, ◌≡◌, ◌≤◌, length, get_or}
use Rattle.rdata_tails.proofs.apl.used.Given as goal

abbrev pub invariant-loop-count : goal.invariant-loop-count
invariant-loop-count l = (l.count ≤ length l.octets) × ((k : ℕ) → l.count ≤ k → get_or l.octets k 0 ≡ 0)

abbrev pub decreases-loop-count : goal.decreases-loop-count
decreases-loop-count l = l.count
