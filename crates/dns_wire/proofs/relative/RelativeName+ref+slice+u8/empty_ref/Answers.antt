use Rattle.std.proofs.Common.{[], refl}
use Rattle.dns_wire.proofs.Wires.{labelled_is, is_empty}
use Rattle.dns_wire.proofs.relative.RelativeName+ref+slice+u8.empty_ref.Goals as goal

pub invariant_of-result-2 : goal.invariant_of-result-2
invariant_of-result-2 c = rw (labelled_is _ c.result-3-1.given.0 [] refl) is_empty

pub returns : goal.returns
returns c = labelled_is _ c.result-3-1.given.0 [] refl
