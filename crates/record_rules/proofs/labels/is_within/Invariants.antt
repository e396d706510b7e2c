use Rattle.std.proofs.Common.{◌≡◌, length}
use Rattle.record_rules.specs.Labels.{ends_in_name, name_labels}
use Rattle.record_rules.proofs.labels.is_within.Given as goal

abbrev pub invariant-loop-after : goal.invariant-loop-after
invariant-loop-after l = ends_in_name (name_labels l.rest) (name_labels l.fn.top) ≡ ends_in_name (name_labels l.fn.name) (name_labels l.fn.top)

abbrev pub decreases-loop-after : goal.decreases-loop-after
decreases-loop-after l = length l.rest
