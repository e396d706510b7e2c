use Rattle.std.proofs.Common.{length}
use Rattle.dns_wire.proofs.Splitting.{Passed}
use Rattle.dns_wire.proofs.split.rest_of.Given as goal

abbrev pub invariant-loop-rest : goal.invariant-loop-rest
invariant-loop-rest l = Passed l.octets l.rest

abbrev pub decreases-loop-rest : goal.decreases-loop-rest
decreases-loop-rest l = length l.rest
