use Rattle.std.proofs.Common.{length}
use Rattle.rdata.proofs.WireStrings.{HasBehind}
use Rattle.rdata.proofs.wire.are_strings.Given as goal

-- the rest is strings exactly if all is
abbrev pub invariant-loop-left : goal.invariant-loop-left
invariant-loop-left l = HasBehind l.octets l.left

abbrev pub decreases-loop-left : goal.decreases-loop-left
decreases-loop-left l = length l.left
