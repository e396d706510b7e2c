use Rattle.std.proofs.Common.{[], ◌∷◌, ◌++◌, ◌∙◌, ap, arith, length}
use Rattle.dns_wire.specs.Wire.{wire}
use Rattle.dns_wire.proofs.Wires.{short_of, labelled_is, length_wire, wire_length_append}
use Rattle.dns_wire.proofs.Builders.{wire_rooted, rooted_plain}
use Rattle.dns_wire.proofs.relative.RelativeName.into_absolute.Goals as goal

pub invariant_of-result : goal.invariant_of-result
invariant_of-result g c =
    let p = c.self.inside.labelled in
    ((p.0 ++ [] ∷ [], c.freeze.ensures ∙ c.in-Ok.ensures.ok ∙ wire_rooted _ p.0 (c.into_builder-builder.ensures ∙ p.1)), tt)

pub invariant_of-result-in-Ok : goal.invariant_of-result-in-Ok
invariant_of-result-in-Ok g c =
    let p = c.self.inside.labelled in
    rw (labelled_is _ c.result-1.given.0 (p.0 ++ [] ∷ []) (c.freeze.ensures ∙ c.in-Ok.ensures.ok ∙ wire_rooted _ p.0 (c.into_builder-builder.ensures ∙ p.1)))
    (rooted_plain p.0 c.self.invariant)

pub returns-in-Ok : goal.returns-in-Ok
returns-in-Ok g c =
    let p = c.self.inside.labelled in
    let is = c.in-Ok.ensures.ok ∙ wire_rooted _ p.0 (c.into_builder-builder.ensures ∙ p.1) in (
      labelled_is _ c.result-1.given.0 (p.0 ++ [] ∷ []) (c.freeze.ensures ∙ is) ∙ ap (λ x. x ++ [] ∷ []) c.self.view_is,
      rw (← c.self.view_is) (omega (arith, c.in-Ok.ensures.within, ap length is, length_wire (p.0 ++ [] ∷ []), wire_length_append p.0 ([] ∷ []))),
    )

pub returns-in-Err : goal.returns-in-Err
returns-in-Err g c =
    let p = c.self.inside.labelled in
    let is = c.into_builder-builder.ensures ∙ p.1 ∙ ap wire c.self.view_is in
    omega (arith, short_of _ _ 1 c.in-Err.ensures.fits, ap length is, length_wire c.args.self)
