use Rattle.std.proofs.Common.{◌-◌, ◌≡◌, ◌≤◌, drop}
use Rattle.dns_octets.specs.Lowered.{lowered_order}
use Rattle.zone_record.proofs.names.compare_label.Given as goal

abbrev pub invariant-loop-same : goal.invariant-loop-same
invariant-loop-same l = (l.same ≤ l.shared) × (lowered_order l.fn.left l.fn.right ≡ lowered_order (drop l.same l.fn.left) (drop l.same l.fn.right))

abbrev pub decreases-loop-same : goal.decreases-loop-same
decreases-loop-same l = l.shared - l.same
