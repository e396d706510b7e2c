use Rattle.std.proofs.Common.{◌≡◌, false}
use Rattle.std.specs.Prelude.{◌==◌}
use Rattle.std.specs.List.{AllWithin}
use Rattle.zone_contents.proofs.lookups.has_type_within.Given as goal

abbrev pub invariant-loop-place : goal.invariant-loop-place
invariant-loop-place g l = AllWithin (λ r. (r.parts.code == l.rtype) ≡ false) l.store l.first l.place
