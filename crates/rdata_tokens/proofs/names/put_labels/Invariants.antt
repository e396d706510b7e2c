use Rattle.std.proofs.Common.{length, ◌-◌}
use Rattle.rdata_tokens.proofs.PutLabels.{LabelsPut}
use Rattle.rdata_tokens.proofs.names.put_labels.Given as goal

abbrev pub invariant-labels : goal.invariant-labels
invariant-labels l = LabelsPut l.text l.wire l.start

abbrev pub decreases-labels : goal.decreases-labels
decreases-labels l = length l.text - l.start
