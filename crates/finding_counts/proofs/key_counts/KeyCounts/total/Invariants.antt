use Rattle.std.proofs.Common.{◌≡◌, ◌+◌, ◌≤◌, min, sum}
use Rattle.std.specs.BTreeMap.{values}
use Rattle.finding_counts.proofs.key_counts.KeyCounts.total.Given as goal

abbrev pub invariant-loop-number : goal.invariant-loop-number
invariant-loop-number l = record {
  fits : l.sum ≤ 18446744073709551615;
  value : min (l.sum + sum l.number-iterator) 18446744073709551615 ≡ min (sum (values l.self.counts)) 18446744073709551615;
}
