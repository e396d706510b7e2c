use Rattle.std.proofs.Common.{suc, ◌≤◌, subst, arith}
use Rattle.zone_edit.specs.Edits.{IsFirstPastEnd}
use Rattle.zone_edit.proofs.Opening.{past_here, past_next, rest_of, within_next}
use Rattle.zone_edit.proofs.edit.check_ends.Goals as goal

pub returns-then-len-edit-clause-err : goal.returns-then-len-edit-clause-err
returns-then-len-edit-clause-err g c =
    let edits = c.args.edits.now in
    let i = c.loop-edit.edit-index in
    let e = c.edit-item.result in
    let next = rest_of edits i e e c.loop-edit-test.true c.edit-item.is in
    subst (IsFirstPastEnd c.args.len edits) (omega (arith, c.loop-edit.invariant.counted))
    (c.loop-edit.invariant.first 0 (past_here edits i e next c.args.len c.if-len-edit.true))

pub loop-edit-preserved : goal.loop-edit-preserved
loop-edit-preserved g c =
    let edits = c.args.edits.now in
    let i = c.loop-edit.edit-index in
    let e = c.edit-item.result in
    let next = rest_of edits i e e c.loop-edit-test.true c.edit-item.is in
    let le : e.end ≤ c.args.len = omega (arith, c.if-len-edit.false) in
    record {
      counted = omega (arith, c.loop-edit.invariant.counted);
      within = λ h. c.loop-edit.invariant.within (within_next edits i e next c.args.len le h);
      first = λ k h. subst (IsFirstPastEnd c.args.len edits) (omega arith) (c.loop-edit.invariant.first (suc k) (past_next edits i e next c.args.len k le h));
    }
