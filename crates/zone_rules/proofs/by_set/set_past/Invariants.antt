use Rattle.std.proofs.Common.{◌≡◌, ◌<◌, ◌≤◌, ◌-◌, true}
use Rattle.zone_rules.specs.Sets.{is_like_at}
use Rattle.zone_rules.proofs.by_set.set_past.Given as goal

abbrev pub invariant-halve : goal.invariant-halve
invariant-halve g l = (l.from ≤ l.last) × (l.last < l.next) × (l.next ≤ l.past) × (is_like_at l.one (g.Z.ZoneRecords.contents l.records) l.last ≡ true)

abbrev pub decreases-halve : goal.decreases-halve
decreases-halve g l = l.next - l.last
