use Rattle.std.proofs.Common.{arith, inl}
use Rattle.dns_wire.proofs.Wires.{name_count}
use Rattle.dns_wire.proofs.name.NameToLabelIter.label_count.Goals as goal

pub count-requires-clause-fits : goal.count-requires-clause-fits
count-requires-clause-fits g c = inl (omega (arith, name_count c.iter_labels-labels.result (rw c.iter_labels-labels.ensures.value c.iter_labels-labels.ensures.is_name)))
