use Rattle.std.proofs.Common.{[], ◌∷◌, ◌++◌, ◌∙◌, ap, arith, length}
use Rattle.dns_wire.specs.Wire.{wire}
use Rattle.dns_wire.specs.Building.{Naming, all_labels, closed}
use Rattle.dns_wire.proofs.Wires.{short_of, labelled_is, length_wire, wire_length_append}
use Rattle.dns_wire.proofs.Builders.{wire_rooted, rooted_built}
use Rattle.dns_wire.proofs.name_builder.NameBuilder.into_name.Goals as goal

pub invariant_of-result : goal.invariant_of-result
invariant_of-result g c =
    let p = c.self.inside.opened in
    let labels = p.0.0 ++ closed p.0.1 in
    ((labels ++ [] ∷ [], c.freeze.ensures ∙ c.in-Ok.ensures.ok ∙ wire_rooted _ labels p.1.0), tt)

pub invariant_of-result-in-Ok : goal.invariant_of-result-in-Ok
invariant_of-result-in-Ok g c =
    let p = c.self.inside.opened in
    let labels = p.0.0 ++ closed p.0.1 in
    rw (labelled_is _ c.result-1.given.0 (labels ++ [] ∷ []) (c.freeze.ensures ∙ c.in-Ok.ensures.ok ∙ wire_rooted _ labels p.1.0))
    (rooted_built labels c.self.invariant)

pub returns-in-Ok : goal.returns-in-Ok
returns-in-Ok g c =
    let p = c.self.inside.opened in
    let labels = p.0.0 ++ closed p.0.1 in
    let is = c.in-Ok.ensures.ok ∙ wire_rooted _ labels p.1.0 in
    let e = ap (λ (b : Naming). all_labels b) c.self.view_is in (
      labelled_is _ c.result-1.given.0 (labels ++ [] ∷ []) (c.freeze.ensures ∙ is) ∙ ap (λ x. x ++ [] ∷ []) e,
      rw (← e) (omega (arith, c.in-Ok.ensures.within, ap length is, length_wire (labels ++ [] ∷ []), wire_length_append labels ([] ∷ []))),
    )

pub returns-in-Err : goal.returns-in-Err
returns-in-Err g c =
    let p = c.self.inside.opened in
    let is = p.1.0 ∙ ap (λ (b : Naming). wire (all_labels b)) c.self.view_is in
    omega (arith, short_of _ _ 1 c.in-Err.ensures.fits, ap length is, length_wire (all_labels c.args.self))
