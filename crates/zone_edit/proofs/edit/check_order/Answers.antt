use Rattle.std.proofs.Common.{suc, subst, arith}
use Rattle.zone_edit.specs.Edits.{IsAfter, IsFirstOutOfOrder}
use Rattle.zone_edit.proofs.Opening.{ordered_next, rest_of, wrong_here, wrong_next}
use Rattle.zone_edit.proofs.edit.check_order.Goals as goal
use Rattle.zone_edit.proofs.edit.check_order.Goals.{then-edit-at-via-then-edit-at, then-edit-at-via-else-edit-at+then-edit}

pub returns-then-edit-at-clause-err : goal.returns-then-edit-at-clause-err
returns-then-edit-at-clause-err g c =
    let edits = c.args.edits.now in
    let i = c.loop-edit.edit-index in
    let e = c.edit-item.result in
    let next = rest_of edits i e e c.loop-edit-test.true c.edit-item.is in
    let wrong : IsAfter c.loop-edit.at e → ⊥ = elim c.then-edit-at.branch [
      | then-edit-at-via-then-edit-at w ↦ λ h. omega (arith, h.0, w.if-edit-at)
      | then-edit-at-via-else-edit-at+then-edit w ↦ λ h. omega (arith, h.1, w.if-edit)
    ] in
    subst (IsFirstOutOfOrder 0 edits) (omega (arith, c.loop-edit.invariant.counted))
    (c.loop-edit.invariant.first 0 (wrong_here edits i e next c.loop-edit.at wrong))

pub loop-edit-preserved : goal.loop-edit-preserved
loop-edit-preserved g c =
    let edits = c.args.edits.now in
    let i = c.loop-edit.edit-index in
    let e = c.edit-item.result in
    let at = c.loop-edit.at in
    let next = rest_of edits i e e c.loop-edit-test.true c.edit-item.is in
    let after : IsAfter at e = (omega (arith, c.if-edit-at.false), omega (arith, c.if-edit.false)) in
    record {
      counted = omega (arith, c.loop-edit.invariant.counted);
      ordered = λ h. c.loop-edit.invariant.ordered (ordered_next edits i e next at after h);
      first = λ k h. subst (IsFirstOutOfOrder 0 edits) (omega arith) (c.loop-edit.invariant.first (suc k) (wrong_next edits i e next at k after h));
    }
