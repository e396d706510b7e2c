use Rattle.std.proofs.Common.{◌≡◌, ◌+◌, ◌≤◌, drop}
use Rattle.finding_counts.specs.Baselines.{tab_count}
use Rattle.finding_counts.proofs.baseline.tab_count.Given as goal

abbrev pub invariant-loop-octet : goal.invariant-loop-octet
invariant-loop-octet l = record {
  within : l.count ≤ l.octet-index;
  value : tab_count l.octets ≡ l.count + tab_count (drop l.octet-index l.octets);
}
