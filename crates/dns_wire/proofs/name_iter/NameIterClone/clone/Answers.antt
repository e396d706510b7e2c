use Rattle.std.proofs.Common.{◌∙◌, refl}
use Rattle.dns_wire.proofs.Wires.{labelled_same}
use Rattle.dns_wire.proofs.name_iter.NameIterClone.clone.Goals as goal

pub invariant_of-result-2 : goal.invariant_of-result-2
invariant_of-result-2 c = rw (labelled_same _ _ c.result-2-1.given.0 c.self.inside.labelled refl) c.self.invariant

pub returns : goal.returns
returns c = record { cases = labelled_same _ _ c.result-2-1.given.0 c.self.inside.labelled refl ∙ c.self.view_is }
