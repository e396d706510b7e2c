use Rattle.std.proofs.Common.{◌≡◌, ◌+◌, ◌*◌, ◌≤◌, drop}
use Rattle.zone_dnssec.specs.ZoneKeys.{weighed_sum}
use Rattle.zone_cuts.proofs.digests.weighed_sum.Given as goal

abbrev pub invariant-loop-index : goal.invariant-loop-index
invariant-loop-index l = (l.sum + weighed_sum l.index (drop l.index l.octets) ≡ weighed_sum 0 l.octets) × (l.sum ≤ 65280 * l.index)
