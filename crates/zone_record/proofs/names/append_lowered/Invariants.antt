use Rattle.std.proofs.Common.{length}
use Rattle.zone_record.proofs.LoweredNames.{Lowering}
use Rattle.zone_record.proofs.names.append_lowered.Given as goal

abbrev pub invariant-loop-rest : goal.invariant-loop-rest
invariant-loop-rest g l = Lowering l.octets (g.B.AsOctets.octets l.fn.target) l.rest (g.B.AsOctets.octets l.target)

abbrev pub decreases-loop-rest : goal.decreases-loop-rest
decreases-loop-rest g l = length l.rest
