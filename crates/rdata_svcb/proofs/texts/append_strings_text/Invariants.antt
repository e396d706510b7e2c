use Rattle.std.proofs.Common.{length}
use Rattle.rdata_svcb.proofs.Printing.{PrintsList}
use Rattle.rdata_svcb.proofs.texts.append_strings_text.Given as goal

abbrev pub invariant-loop-rest : goal.invariant-loop-rest
invariant-loop-rest g l = PrintsList l.octets l.rest (g.B.AsOctets.octets l.fn.target) (g.B.AsOctets.octets l.target)

abbrev pub decreases-loop-rest : goal.decreases-loop-rest
decreases-loop-rest g l = length l.rest
