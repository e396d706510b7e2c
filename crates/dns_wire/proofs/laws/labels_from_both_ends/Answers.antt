use Rattle.dns_wire.proofs.BothEnds.{both_ends, ends_met}
use Rattle.dns_wire.proofs.laws.labels_from_both_ends.Goals as goal

pub returns-clause-once : goal.returns-clause-once
returns-clause-once c = both_ends

pub returns-clause-met : goal.returns-clause-met
returns-clause-met c = ends_met
