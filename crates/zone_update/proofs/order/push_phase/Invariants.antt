use Rattle.std.proofs.Common.{◌≡◌, ◌++◌, take}
use Rattle.zone_update.specs.Messages.{in_phase}
use Rattle.zone_update.proofs.order.push_phase.Given as goal

abbrev pub invariant-loop-operation : goal.invariant-loop-operation
invariant-loop-operation g l = l.out.items ≡ l.initial.out.items ++ in_phase l.apex l.phase (take l.operation-index l.operations)
