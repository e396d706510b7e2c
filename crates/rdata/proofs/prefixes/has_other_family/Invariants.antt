use Rattle.std.proofs.Common.{length}
use Rattle.rdata.proofs.ItemLaws.{IsSought}
use Rattle.rdata.proofs.prefixes.has_other_family.Given as goal

-- one is in the rest exactly if one is among all
abbrev pub invariant-loop-left : goal.invariant-loop-left
invariant-loop-left l = IsSought l.octets l.left

abbrev pub decreases-loop-left : goal.decreases-loop-left
decreases-loop-left l = length l.left
