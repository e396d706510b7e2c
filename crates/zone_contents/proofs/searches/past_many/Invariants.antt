use Rattle.std.proofs.Common.{◌≡◌, ◌-◌, ◌<◌, ◌≤◌, length}
use Rattle.zone_store.specs.Stored.{record_at}
use Rattle.zone_contents.proofs.searches.past_many.Given as goal

abbrev pub invariant-halve : goal.invariant-halve
invariant-halve g l =
    (l.place ≤ l.last) × (l.last < l.past) × (l.past ≤ length l.store) × ((record_at l.store l.last).key ≡ (record_at l.store l.place).key)
    × (l.past < length l.store → (record_at l.store l.past).key ≡ (record_at l.store l.place).key → ⊥)

abbrev pub decreases-halve : goal.decreases-halve
decreases-halve g l = l.past - l.last
