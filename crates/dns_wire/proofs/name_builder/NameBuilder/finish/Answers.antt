use Rattle.std.proofs.Common.{◌∙◌, ◌++◌}
use Rattle.dns_wire.specs.Building.{closed}
use Rattle.dns_wire.proofs.Wires.{labelled_is}
use Rattle.dns_wire.proofs.Builders.{built_name}
use Rattle.dns_wire.proofs.name_builder.NameBuilder.finish.Goals as goal

pub invariant_of-result-2 : goal.invariant_of-result-2
invariant_of-result-2 g c =
    let p = c.self.inside.opened in
    rw (labelled_is _ c.result-1.given.0 (p.0.0 ++ closed p.0.1) (c.freeze.ensures ∙ p.1.0)) (built_name (p.0.0 ++ closed p.0.1) c.self.invariant)

pub returns : goal.returns
returns g c =
    let p = c.self.inside.opened in
    rw (← c.self.view_is) (labelled_is _ c.result-1.given.0 (p.0.0 ++ closed p.0.1) (c.freeze.ensures ∙ p.1.0))
