use Rattle.std.proofs.Common.{length}
use Rattle.rdata.proofs.PrefixListLaws.{SameItems}
use Rattle.rdata.proofs.prefixes.are_prefixes.Given as goal

-- the rest is items exactly if all is
abbrev pub invariant-loop-left : goal.invariant-loop-left
invariant-loop-left l = SameItems l.octets l.left

abbrev pub decreases-loop-left : goal.decreases-loop-left
decreases-loop-left l = length l.left
