use Rattle.std.proofs.Common.{◌≡◌}
use Rattle.record_rules.specs.Labels.{beyond_passing, name_labels, passes_test}
use Rattle.record_rules.proofs.labels.after_passing.Given as goal

abbrev pub invariant-labels : goal.invariant-labels
invariant-labels l =
    beyond_passing (passes_test l.test) l.left (name_labels l.rest)
    ≡ beyond_passing (passes_test l.test) l.fn.count (name_labels l.fn.name)

abbrev pub decreases-labels : goal.decreases-labels
decreases-labels l = l.left
