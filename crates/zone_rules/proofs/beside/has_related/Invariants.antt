use Rattle.std.proofs.Common.{◌≡◌, ◌≤◌, false}
use Rattle.std.specs.List.{AllWithin}
use Rattle.zone_rules.specs.Subjects.{relates}
use Rattle.zone_rules.proofs.beside.has_related.Given as goal

abbrev pub invariant-back : goal.invariant-back
invariant-back g l = (l.from ≤ l.place) × AllWithin (λ r. relates l.relation l.one r ≡ false) (g.Z.ZoneRecords.contents l.records) l.from l.place

abbrev pub decreases-back : goal.decreases-back
decreases-back g l = l.from

abbrev pub invariant-loop-other : goal.invariant-loop-other
invariant-loop-other g l = AllWithin (λ r. relates l.relation l.one r ≡ false) (g.Z.ZoneRecords.contents l.records) l.place l.other
