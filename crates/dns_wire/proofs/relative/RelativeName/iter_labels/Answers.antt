use Rattle.std.proofs.Common.{◌∙◌}
use Rattle.dns_wire.proofs.Wires.{labelled_same}
use Rattle.dns_wire.proofs.relative.RelativeName.iter_labels.Goals as goal

pub invariant_of-result-2 : goal.invariant_of-result-2
invariant_of-result-2 g c =
    rw (labelled_same _ _ c.result-1.given.0 c.self.inside.labelled c.as_slice.ensures.value) (c.self.invariant.0.short)

pub returns-clause-value : goal.returns-clause-value
returns-clause-value g c = labelled_same _ _ c.result-1.given.0 c.self.inside.labelled c.as_slice.ensures.value ∙ c.self.view_is
