use Rattle.std.proofs.Common.{length}
use Rattle.rdata_tokens.proofs.NameFronts.{Counted}
use Rattle.rdata_tokens.proofs.widths.name_width.Given as goal

abbrev pub invariant-loop-rest : goal.invariant-loop-rest
invariant-loop-rest l = Counted l.octets l.rest l.width

abbrev pub decreases-loop-rest : goal.decreases-loop-rest
decreases-loop-rest l = length l.rest
