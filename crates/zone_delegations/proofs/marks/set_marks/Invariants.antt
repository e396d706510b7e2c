use Rattle.zone_delegations.specs.Owners.{AreMarkedFrom}
use Rattle.zone_delegations.proofs.marks.set_marks.Given as goal

abbrev pub invariant-loop-place : goal.invariant-loop-place
invariant-loop-place g l = AreMarkedFrom l.initial.marks.items l.marks.items l.first l.place
