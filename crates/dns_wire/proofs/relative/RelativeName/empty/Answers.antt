use Rattle.std.proofs.Common.{[], ◌∙◌}
use Rattle.dns_wire.proofs.Wires.{labelled_is, is_empty}
use Rattle.dns_wire.proofs.relative.RelativeName.empty.Goals as goal

pub invariant_of-result-2 : goal.invariant_of-result-2
invariant_of-result-2 g c = rw (labelled_is _ c.result-1.given.0 [] (c.from_builder.ensures ∙ c.empty.ensures)) is_empty

pub returns : goal.returns
returns g c = labelled_is _ c.result-1.given.0 [] (c.from_builder.ensures ∙ c.empty.ensures)
