use Rattle.std.proofs.Common.{◌≡◌, length}
use Rattle.record_rules.specs.Labels.{is_divided_below, name_labels}
use Rattle.record_rules.proofs.labels.is_divided_below.Given as goal

abbrev pub invariant-loop-label : goal.invariant-loop-label
invariant-loop-label l = is_divided_below (name_labels l.rest) (name_labels l.fn.top) ≡ is_divided_below (name_labels l.fn.name) (name_labels l.fn.top)

abbrev pub decreases-loop-label : goal.decreases-loop-label
decreases-loop-label l = length l.rest
