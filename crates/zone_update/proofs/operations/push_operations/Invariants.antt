use Rattle.std.proofs.Common.{◌≡◌, ◌++◌, drop}
use Rattle.zone_update.specs.Operations.{operations_of}
use Rattle.zone_update.proofs.operations.push_operations.Given as goal

abbrev pub invariant-loop-change : goal.invariant-loop-change
invariant-loop-change g l =
    l.out.items ++ operations_of l.with_keys (drop l.change-index l.changes) ≡ l.initial.out.items ++ operations_of l.with_keys l.changes
