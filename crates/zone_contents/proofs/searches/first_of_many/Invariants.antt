use Rattle.std.proofs.Common.{◌≡◌, ◌-◌, ◌<◌, ◌≤◌}
use Rattle.zone_store.specs.Stored.{record_at}
use Rattle.zone_contents.proofs.searches.first_of_many.Given as goal

abbrev pub invariant-halve : goal.invariant-halve
invariant-halve g l =
    (l.from ≤ l.first) × (l.first ≤ l.place) × ((record_at l.store l.first).key ≡ (record_at l.store l.place).key)
    × (0 < l.from → (record_at l.store (l.from - 1)).key ≡ (record_at l.store l.place).key → ⊥)

abbrev pub decreases-halve : goal.decreases-halve
decreases-halve g l = l.first - l.from
