use Rattle.std.proofs.Common.{◌∙◌, ap, ◌++◌, arith, length}
use Rattle.dns_wire.specs.Wire.{wire}
use Rattle.dns_wire.proofs.Wires.{labelled_is, length_wire}
use Rattle.dns_wire.proofs.name.Name.from_labels.Goals as goal

pub invariant_of-result-2 : goal.invariant_of-result-2
invariant_of-result-2 g c =
    let e = labelled_is _ c.result-1.given.0 (g.N.ToLabelIter.labels c.args.name.now)
    (c.from_builder.ensures ∙ c.in_ok-compose.ensures.ok ∙ ap (λ x. x ++ wire (g.N.ToLabelIter.labels c.args.name.now)) c.empty-builder.ensures) in
    rw e (g.met.N.ToLabelIter.is_name _ c.compose_len-known.ensures.holds, g.met.N.ToName.ends_in_root _ c.compose_len-known.ensures.holds)

pub returns-clause-value : goal.returns-clause-value
returns-clause-value g c =
    labelled_is _ c.result-1.given.0 (g.N.ToLabelIter.labels c.args.name.now)
    (c.from_builder.ensures ∙ c.in_ok-compose.ensures.ok ∙ ap (λ x. x ++ wire (g.N.ToLabelIter.labels c.args.name.now)) c.empty-builder.ensures)

pub returns-clause-within : goal.returns-clause-within
returns-clause-within g c =
    let labels = g.N.ToLabelIter.labels c.args.name.now in
    let is = c.in_ok-compose.ensures.ok ∙ ap (λ x. x ++ wire labels) c.empty-builder.ensures in
    rw (labelled_is _ c.result-1.given.0 labels (c.from_builder.ensures ∙ is)) (omega (arith, c.in_ok-compose.ensures.within, ap length is, length_wire labels))
