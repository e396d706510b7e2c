use Rattle.std.proofs.Common.{◌≡◌}
use Rattle.std.specs.List.{AllWithin}
use Rattle.zone_contents.proofs.searches.past_key.Given as goal

abbrev pub invariant-loop-place : goal.invariant-loop-place
invariant-loop-place g l = AllWithin (λ r. r.key ≡ l.key) l.store l.first l.place
