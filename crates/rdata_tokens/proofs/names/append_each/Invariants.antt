use Rattle.std.proofs.Common.{length}
use Rattle.rdata_tokens.proofs.LabelParts.{Appended}
use Rattle.rdata_tokens.proofs.names.append_each.Given as goal

abbrev pub invariant-labels : goal.invariant-labels
invariant-labels g l = Appended l.text (g.B.AsOctets.octets l.fn.target) l.rest (g.B.AsOctets.octets l.target) l.count

abbrev pub decreases-labels : goal.decreases-labels
decreases-labels g l = length l.rest
