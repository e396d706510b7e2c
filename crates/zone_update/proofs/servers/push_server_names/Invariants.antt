use Rattle.std.proofs.Common.{◌≡◌, ◌++◌, take}
use Rattle.zone_update.specs.Parts.{seen, server_names}
use Rattle.zone_update.proofs.servers.push_server_names.Given as goal

abbrev pub invariant-loop-one : goal.invariant-loop-one
invariant-loop-one g l = seen l.out.items ≡ seen l.initial.out.items ++ server_names l.apex (take l.one-index l.records)
