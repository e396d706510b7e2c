use Rattle.std.proofs.Common.{◌≡◌, length}
use Rattle.record_rules.specs.Labels.{beyond_name}
use Rattle.record_rules.proofs.labels.after_name.Given as goal

abbrev pub invariant-loop-after : goal.invariant-loop-after
invariant-loop-after l = beyond_name l.rest ≡ beyond_name l.fn.name

abbrev pub decreases-loop-after : goal.decreases-loop-after
decreases-loop-after l = length l.rest
