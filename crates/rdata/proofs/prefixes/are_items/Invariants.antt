use Rattle.std.proofs.Common.{length}
use Rattle.rdata.proofs.ItemLaws.{SameAny}
use Rattle.rdata.proofs.prefixes.are_items.Given as goal

-- the rest is items exactly if all is
abbrev pub invariant-loop-left : goal.invariant-loop-left
invariant-loop-left l = SameAny l.octets l.left

abbrev pub decreases-loop-left : goal.decreases-loop-left
decreases-loop-left l = length l.left
