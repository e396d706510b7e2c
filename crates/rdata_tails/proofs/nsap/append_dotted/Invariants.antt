use Rattle.std.proofs.Common.{length, ◌-◌}
use Rattle.rdata_tails.proofs.NsapLaws.{HasPushed}
use Rattle.rdata_tails.proofs.nsap.append_dotted.Given as goal

-- the digits so far are pushed
abbrev pub invariant-loop-at : goal.invariant-loop-at
invariant-loop-at g l = HasPushed l.reader l.dotted l.at (g.B.AsOctets.octets l.fn.target) (g.B.AsOctets.octets l.target)

abbrev pub decreases-loop-at : goal.decreases-loop-at
decreases-loop-at g l = length l.dotted - l.at
