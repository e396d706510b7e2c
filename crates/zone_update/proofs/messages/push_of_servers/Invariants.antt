use Rattle.std.proofs.Common.{◌≡◌, ◌++◌, take}
use Rattle.std.specs.List.{filter}
use Rattle.zone_update.specs.Parts.{is_of_servers}
use Rattle.zone_update.proofs.messages.push_of_servers.Given as goal

abbrev pub invariant-loop-operation : goal.invariant-loop-operation
invariant-loop-operation g l = l.out.items ≡ l.initial.out.items ++ filter (is_of_servers l.servers) (take l.operation-index l.operations)
