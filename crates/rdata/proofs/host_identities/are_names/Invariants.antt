use Rattle.std.proofs.Common.{length}
use Rattle.rdata.proofs.HostWire.{SameNames}
use Rattle.rdata.proofs.host_identities.are_names.Given as goal

-- the rest is names exactly if all is
abbrev pub invariant-loop-left : goal.invariant-loop-left
invariant-loop-left l = SameNames l.octets l.left

abbrev pub decreases-loop-left : goal.decreases-loop-left
decreases-loop-left l = length l.left
