use Rattle.std.proofs.Common.{length}
use Rattle.zonetext_lib.specs.Comparing.{SameUntil}
use Rattle.zonetext_lib.proofs.Comparing.{InStep}
use Rattle.zonetext_lib.proofs.Same.{Last}
use Rattle.zonetext_lib.proofs.diff.same_until.Given as goal

abbrev pub invariant-parts : goal.invariant-parts
invariant-parts l = record {
  step : InStep l.first l.second l.initial.ours l.initial.theirs l.ours l.theirs l.ended l.that_ended;
  last : Last l.first l.second l.initial.ours l.initial.theirs l.ours l.theirs l.ended l.that_ended l.last l.that_last;
  cut : SameUntil l.first l.second l.cut l.that_cut;
}

abbrev pub decreases-parts : goal.decreases-parts
decreases-parts l = length l.ours
