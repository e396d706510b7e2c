use Rattle.std.proofs.Common.{◌≡◌}
use Rattle.std.specs.List.{AllWithin}
use Rattle.zone_store.specs.Stored.{record_at}
use Rattle.zone_contents.proofs.searches.past_with_key.Given as goal

abbrev pub invariant-loop-next : goal.invariant-loop-next
invariant-loop-next g l = AllWithin (λ r. r.key ≡ (record_at l.store l.place).key) l.store l.place l.next
