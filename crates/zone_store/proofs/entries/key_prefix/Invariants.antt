use Rattle.std.proofs.Common.{◌≡◌}
use Rattle.zone_store.specs.Prefixes.{prefix_number}
use Rattle.zone_store.proofs.entries.key_prefix.Given as goal

abbrev pub invariant-loop-index : goal.invariant-loop-index
invariant-loop-index l = l.prefix ≡ prefix_number l.index l.key
