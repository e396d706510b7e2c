use Rattle.std.proofs.Common.{◌∙◌}
use Rattle.dns_wire.proofs.Wires.{labelled_same}
use Rattle.dns_wire.proofs.name.Name.clone.Goals as goal

pub invariant_of-result-2 : goal.invariant_of-result-2
invariant_of-result-2 g c =
    rw (labelled_same _ _ c.result-2-1.given.0 c.self.inside.labelled (c.requires _ _ c.in_ok-clone.ensures.cases)) c.self.invariant

pub returns-clause-value : goal.returns-clause-value
returns-clause-value g c =
    labelled_same _ _ c.result-2-1.given.0 c.self.inside.labelled (c.requires _ _ c.in_ok-clone.ensures.cases) ∙ c.self.view_is
