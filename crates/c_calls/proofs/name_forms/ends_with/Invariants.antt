use Rattle.std.proofs.Common.{length}
use Rattle.dns_name.specs.Uncertain.{labels_of}
use Rattle.c_calls.proofs.LastLabels.{LeavesLast}
use Rattle.c_calls.proofs.name_forms.ends_with.Given as goal

abbrev pub invariant-labels : goal.invariant-labels
invariant-labels l = LeavesLast (labels_of l.name) (labels_of l.zone) l.rest

abbrev pub decreases-labels : goal.decreases-labels
decreases-labels l = length l.rest
