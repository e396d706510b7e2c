use Rattle.std.proofs.Common.{length}
use Rattle.zonetext_lib.proofs.Comparing.{InStep}
use Rattle.zonetext_lib.proofs.diff.diff.Given as goal

abbrev pub invariant-loop-one : goal.invariant-loop-one
invariant-loop-one l = InStep l.first l.second l.initial.ours l.initial.theirs l.ours l.theirs l.ended l.that_ended

abbrev pub decreases-loop-one : goal.decreases-loop-one
decreases-loop-one l = length l.ours
