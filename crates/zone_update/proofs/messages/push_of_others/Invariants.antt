use Rattle.std.proofs.Common.{◌≡◌, ◌++◌, not, take}
use Rattle.std.specs.List.{filter}
use Rattle.zone_update.specs.Parts.{is_of_servers}
use Rattle.zone_update.proofs.messages.push_of_others.Given as goal

abbrev pub invariant-loop-operation : goal.invariant-loop-operation
invariant-loop-operation g l =
    l.out.items ≡ l.initial.out.items ++ filter (λ o. not (is_of_servers l.servers o)) (take l.operation-index l.operations)
