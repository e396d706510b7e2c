use Rattle.std.proofs.Common.{refl, [], ap, ◌++◌, ◌∙◌}
use Rattle.dns_wire.specs.Building.{closed, ended}
use Rattle.dns_wire.proofs.Builders.{as_naming, opened_is, built_closed, wire_closed}
use Rattle.dns_wire.proofs.name_builder.NameBuilder.end_label.Goals as goal

pub invariant_of-self-inside : goal.invariant_of-self-inside
invariant_of-self-inside g c =
    let p = c.self.inside.opened in (((p.0.0 ++ closed p.0.1, []), (wire_closed _ p.0.0 p.0.1 p.1.0, refl)), tt)

pub invariant_of-self : goal.invariant_of-self
invariant_of-self g c =
    let p = c.self.inside.opened in
    rw (opened_is _ _ c.self-1.given.0 (p.0.0 ++ closed p.0.1) [] (wire_closed _ p.0.0 p.0.1 p.1.0) refl) (built_closed p.0.0 p.0.1 c.self.invariant)

pub returns : goal.returns
returns g c =
    let p = c.self.inside.opened in
    let e = opened_is _ _ c.self-1.given.0 (p.0.0 ++ closed p.0.1) [] (wire_closed _ p.0.0 p.0.1 p.1.0) refl in
    ap as_naming e ∙ ap ended c.self.view_is
