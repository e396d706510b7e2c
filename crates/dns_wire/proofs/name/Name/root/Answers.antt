use Rattle.std.proofs.Common.{[], ◌∷◌, ◌++◌, ◌∙◌, ap, arith, length}
use Rattle.dns_wire.proofs.Wires.{labelled_is, is_root}
use Rattle.dns_wire.proofs.name.Name.root.Goals as goal

pub invariant_of-result : goal.invariant_of-result
invariant_of-result g c =
    (([] ∷ [], c.from_builder.ensures ∙ c.in_ok-append_slice.ensures.ok ∙ ap (λ x. x ++ 0 ∷ []) c.empty-builder.ensures), tt)

pub invariant_of-result-2 : goal.invariant_of-result-2
invariant_of-result-2 g c =
    rw (labelled_is _ c.result-1.given.0 ([] ∷ []) (c.from_builder.ensures ∙ c.in_ok-append_slice.ensures.ok ∙ ap (λ x. x ++ 0 ∷ []) c.empty-builder.ensures))
    is_root

pub returns-clause-value : goal.returns-clause-value
returns-clause-value g c =
    labelled_is _ c.result-1.given.0 ([] ∷ []) (c.from_builder.ensures ∙ c.in_ok-append_slice.ensures.ok ∙ ap (λ x. x ++ 0 ∷ []) c.empty-builder.ensures)

pub returns-clause-within : goal.returns-clause-within
returns-clause-within g c =
    let is = c.in_ok-append_slice.ensures.ok ∙ ap (λ x. x ++ 0 ∷ []) c.empty-builder.ensures in
    rw (labelled_is _ c.result-1.given.0 ([] ∷ []) (c.from_builder.ensures ∙ is)) (omega (arith, c.in_ok-append_slice.ensures.within, ap length is))
