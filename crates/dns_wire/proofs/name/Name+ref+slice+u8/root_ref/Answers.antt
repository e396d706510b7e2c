use Rattle.std.proofs.Common.{[], ◌∷◌, refl}
use Rattle.dns_wire.proofs.Wires.{labelled_is, is_root}
use Rattle.dns_wire.proofs.name.Name+ref+slice+u8.root_ref.Goals as goal

pub invariant_of-result : goal.invariant_of-result
invariant_of-result c = (([] ∷ [], refl), tt)

pub invariant_of-result-2 : goal.invariant_of-result-2
invariant_of-result-2 c = rw (labelled_is _ c.result-3-1.given.0 ([] ∷ []) refl) is_root

pub returns : goal.returns
returns c = labelled_is _ c.result-3-1.given.0 ([] ∷ []) refl
