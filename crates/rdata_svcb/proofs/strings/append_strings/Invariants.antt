use Rattle.std.proofs.Common.{length}
use Rattle.rdata_svcb.proofs.ListTexts.{TakesStrings}
use Rattle.rdata_svcb.proofs.strings.append_strings.Given as goal

abbrev pub invariant-loop-rest : goal.invariant-loop-rest
invariant-loop-rest g l = TakesStrings l.text l.rest (g.B.AsOctets.octets l.fn.target) (g.B.AsOctets.octets l.target)

abbrev pub decreases-loop-rest : goal.decreases-loop-rest
decreases-loop-rest g l = length l.rest
