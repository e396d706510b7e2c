use Rattle.std.proofs.Common.{arith, sym, ◌∙◌, ap, length, refl}
use Rattle.dns_wire.specs.Label.{label_octets}
use Rattle.dns_wire.proofs.Wires.{labelled_same, append_one, All-front}
use Rattle.dns_wire.proofs.Iterating.{seeks_first, seeks_more, seeks_fits, seeks_done, seeks_take, none_left, some_left}
use Rattle.dns_wire.proofs.name_iter.NameIterDoubleEndedIterator.next_back.Goals as goal

pub invariant_of-rest : goal.invariant_of-rest
invariant_of-rest c = rw (labelled_same _ _ c.rest-1.given.0 c.self.inside.labelled refl) (c.self.invariant)

pub slice_bounds-self-end : goal.slice_bounds-self-end
slice_bounds-self-end c =
    let e = seeks_take _ _ _ _ c.loop-label.invariant.seeks c.self.inside.labelled.1 in
    c.loop-label.invariant.seeks.at ∙ ap length (sym e)

pub invariant_of-self-inside : goal.invariant_of-self-inside
invariant_of-self-inside c = ((c.loop-label.invariant.seeks.front, seeks_take _ _ _ _ c.loop-label.invariant.seeks c.self.inside.labelled.1), tt)

pub invariant_of-self : goal.invariant_of-self
invariant_of-self c =
    let e = labelled_same _ _ c.self-1.given.0 (c.loop-label.invariant.seeks.front, seeks_take _ _ _ _ c.loop-label.invariant.seeks c.self.inside.labelled.1) refl in
    rw e (All-front c.loop-label.invariant.seeks.front c.loop-label.rest (rw c.loop-label.invariant.seeks.spelled at c.self.invariant))

pub returns-then-is_empty-clause-steps : goal.returns-then-is_empty-clause-steps
returns-then-is_empty-clause-steps c =
    let e = labelled_same _ _ c.self-1.given.0 (c.loop-label.invariant.seeks.front, seeks_take _ _ _ _ c.loop-label.invariant.seeks c.self.inside.labelled.1) refl in
    let d = seeks_done _ _ _ _ _ c.loop-label.invariant.seeks c.in-Some.ensures.steps (none_left _ _ c.as_slice.ensures c.if-is_empty.ensures) in
    rw (e, ← d) (sym c.self.view_is)

pub returns-then-is_empty-clause-goes : goal.returns-then-is_empty-clause-goes
returns-then-is_empty-clause-goes c =
    let e = labelled_same _ _ c.self-1.given.0 (c.loop-label.invariant.seeks.front, seeks_take _ _ _ _ c.loop-label.invariant.seeks c.self.inside.labelled.1) refl in
    let d = seeks_done _ _ _ _ _ c.loop-label.invariant.seeks c.in-Some.ensures.steps (none_left _ _ c.as_slice.ensures c.if-is_empty.ensures) in
    record {
      on = λ _. (tt, tt, rw (e, ← c.self.view_is) (omega (arith, ap length d, append_one c.loop-label.invariant.seeks.front (label_octets c.in-Some.label))));
      keeps = tt;
      rests = λ _. tt;
    }

pub overflow_add-place-in-Some : goal.overflow_add-place-in-Some
overflow_add-place-in-Some c =
    let b = seeks_fits _ _ _ (label_octets c.in-Some.label) _ _ c.loop-label.invariant.seeks c.in-Some.ensures.steps c.self.inside.labelled.1 in
    omega (arith, c.self.told, c.len.ensures.value)

pub loop-label-init : goal.loop-label-init
loop-label-init c = record { seeks = seeks_first _ _ (labelled_same _ _ c.rest-1.given.0 c.self.inside.labelled refl); same = refl }

pub loop-label-preserved : goal.loop-label-preserved
loop-label-preserved c =
    record {
      seeks = rw c.len.ensures.value
          (seeks_more _ _ _ (label_octets c.in-Some.label) _ c.loop-label.invariant.seeks c.in-Some.ensures.steps (some_left _ _ c.as_slice.ensures c.if-is_empty.ensures));
      same = c.loop-label.invariant.same;
    }

pub returns-clause-steps : goal.returns-clause-steps
returns-clause-steps c = let e = c.loop-label.invariant.seeks.some c.in_default.ensures.steps.0 in (sym c.self.view_is ∙ e, ap (λ x. x.labelled.0) c.loop-label.invariant.same ∙ e)
