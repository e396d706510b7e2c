use Rattle.std.proofs.Common.{ℕ, ◌≡◌, ◌<◌, true}
use Rattle.zone_store.specs.Duplicates.{is_duplicate_at}
use Rattle.zone_contents.proofs.changes.past_duplicates.Given as goal

abbrev pub invariant-loop-next : goal.invariant-loop-next
invariant-loop-next g l = (k : ℕ) → l.place < k → k < l.next → is_duplicate_at l.store k ≡ true
