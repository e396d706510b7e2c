use Rattle.std.proofs.Common.{ℕ, ◌≢◌, ◌≤◌, ◌<◌, length, get_or}
use Rattle.rdata_tails.proofs.marks.around_last.Given as goal

abbrev pub invariant-loop-end : goal.invariant-loop-end
invariant-loop-end l = record { within : l.end ≤ length l.text; none : (k : ℕ) → l.end ≤ k → k < length l.text → get_or l.text k 0 ≢ l.mark }

abbrev pub decreases-loop-end : goal.decreases-loop-end
decreases-loop-end l = l.end
