use Rattle.std.proofs.Common.{◌+◌, length}
use Rattle.zone_rules.proofs.SharedNames.{Nearing}
use Rattle.zone_rules.proofs.names.shared_length.Given as goal

abbrev pub invariant-loop-rest : goal.invariant-loop-rest
invariant-loop-rest l = Nearing l.name l.other l.above l.rest

abbrev pub decreases-loop-rest : goal.decreases-loop-rest
decreases-loop-rest l = length l.above + length l.rest
