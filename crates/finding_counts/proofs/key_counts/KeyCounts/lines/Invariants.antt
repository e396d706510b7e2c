use Rattle.std.proofs.Common.{◌≡◌, ◌++◌, map}
use Rattle.finding_counts.specs.KeyNumbers.{numbered_keys, text_of_keys}
use Rattle.finding_counts.proofs.key_counts.KeyCounts.lines.Given as goal

abbrev pub invariant-loop-key : goal.invariant-loop-key
invariant-loop-key l = l.out.items ++ text_of_keys (map (λ e. (e.0.items, e.1)) l.key-iterator) ≡ text_of_keys (numbered_keys l.self)
