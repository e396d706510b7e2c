use Rattle.std.proofs.Common.{◌≡◌}
use Rattle.record_rules.specs.Labels.{beyond_passing, is_nibble_label, name_labels}
use Rattle.record_rules.proofs.labels.after_nibbles.Given as goal

abbrev pub invariant-labels : goal.invariant-labels
invariant-labels l =
    beyond_passing is_nibble_label l.missing (name_labels l.rest) ≡ beyond_passing is_nibble_label l.fn.count (name_labels l.fn.name)

abbrev pub decreases-labels : goal.decreases-labels
decreases-labels l = l.missing
