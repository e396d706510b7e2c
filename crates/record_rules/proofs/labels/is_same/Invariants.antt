use Rattle.std.proofs.Common.{◌≡◌, length}
use Rattle.dns_wire.specs.Order.{same_name}
use Rattle.record_rules.specs.Labels.{name_labels}
use Rattle.record_rules.proofs.labels.is_same.Given as goal

abbrev pub invariant-loop-label : goal.invariant-loop-label
invariant-loop-label l = same_name (name_labels l.rest) (name_labels l.others) ≡ same_name (name_labels l.fn.left) (name_labels l.fn.right)

abbrev pub decreases-loop-label : goal.decreases-loop-label
decreases-loop-label l = length l.rest
