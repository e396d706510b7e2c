use Rattle.std.proofs.Common.{◌≡◌, length}
use Rattle.std.specs.List.{list_any}
use Rattle.record_rules.specs.Labels.{name_labels, passes_test}
use Rattle.record_rules.proofs.labels.any_label.Given as goal

abbrev pub invariant-loop-label : goal.invariant-loop-label
invariant-loop-label l = list_any (passes_test l.test) (name_labels l.rest) ≡ list_any (passes_test l.test) (name_labels l.fn.name)

abbrev pub decreases-loop-label : goal.decreases-loop-label
decreases-loop-label l = length l.rest
