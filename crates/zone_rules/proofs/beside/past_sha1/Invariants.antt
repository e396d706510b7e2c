use Rattle.std.proofs.Common.{◌≡◌, ◌<◌, ◌≤◌, ◌-◌, true, false}
use Rattle.zone_rules.specs.Subjects.{relates_at}
use Rattle.zone_rules.specs.declared.beside.Relation.TheVariants.{Sha1}
use Rattle.zone_rules.proofs.beside.past_sha1.Given as goal

abbrev pub invariant-halve : goal.invariant-halve
invariant-halve g l =
    (l.place ≤ l.last) × (l.last < l.next) × (l.next ≤ l.past) × (relates_at Sha1 l.one (g.Z.ZoneRecords.contents l.records) l.last ≡ true)
    × (l.next < l.past → relates_at Sha1 l.one (g.Z.ZoneRecords.contents l.records) l.next ≡ false)

abbrev pub decreases-halve : goal.decreases-halve
decreases-halve g l = l.next - l.last
