use Rattle.std.proofs.Common.{◌≡◌, ◌<◌, ◌≤◌, ◌-◌, true, false}
use Rattle.zone_rules.specs.Subjects.{relates_at}
use Rattle.zone_rules.specs.declared.beside.Relation.TheVariants.{Sha1}
use Rattle.zone_rules.proofs.beside.first_sha1.Given as goal

abbrev pub invariant-halve : goal.invariant-halve
invariant-halve g l =
    (l.first ≤ l.low) × (l.low ≤ l.from) × (l.from ≤ l.place) × (relates_at Sha1 l.one (g.Z.ZoneRecords.contents l.records) l.from ≡ true)
    × (l.first < l.low → relates_at Sha1 l.one (g.Z.ZoneRecords.contents l.records) (l.low - 1) ≡ false)

abbrev pub decreases-halve : goal.decreases-halve
decreases-halve g l = l.from - l.low
