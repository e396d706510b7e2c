use Rattle.std.proofs.Common.{◌≡◌, ◌≤◌}
use Rattle.std.specs.List.{AllWithin}
use Rattle.zone_store.specs.Stored.{record_at}
use Rattle.zone_contents.proofs.searches.first_with_key.Given as goal

abbrev pub invariant-back : goal.invariant-back
invariant-back g l = (l.first ≤ l.place) × AllWithin (λ r. r.key ≡ (record_at l.store l.place).key) l.store l.first l.place

abbrev pub decreases-back : goal.decreases-back
decreases-back g l = l.first
