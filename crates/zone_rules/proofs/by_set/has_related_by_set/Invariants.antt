use Rattle.std.proofs.Common.{◌≡◌, ◌≤◌, ◌-◌, false}
use Rattle.std.specs.List.{AllWithin}
use Rattle.zone_rules.specs.Subjects.{relates}
use Rattle.zone_rules.proofs.by_set.has_related_by_set.Given as goal

abbrev pub invariant-sets : goal.invariant-sets
invariant-sets g l = (l.first ≤ l.from) × (l.from ≤ l.past) × AllWithin (λ r. relates l.relation l.one r ≡ false) (g.Z.ZoneRecords.contents l.records) l.first l.from

abbrev pub decreases-sets : goal.decreases-sets
decreases-sets g l = l.past - l.from
