use Rattle.std.proofs.Common.{◌≡◌, drop, length}
use Rattle.record_rules.specs.Labels.{last_two, name_labels}
use Rattle.record_rules.proofs.labels.last_two.Given as goal

abbrev pub invariant-loop-after : goal.invariant-loop-after
invariant-loop-after l =
    (name_labels l.next ≡ drop 1 (name_labels l.last))
    × (name_labels l.rest ≡ drop 1 (name_labels l.next))
    × (last_two (name_labels l.last) ≡ last_two (name_labels l.fn.name))

abbrev pub decreases-loop-after : goal.decreases-loop-after
decreases-loop-after l = length l.rest
