use Rattle.std.proofs.Common.{append-nil, ap, sym, true, false, ◌∙◌}
use Rattle.finding_texts.proofs.Suggesting.{more_if}
use Rattle.finding_texts.proofs.similar.suggested_types.Goals as goal
use Rattle.finding_texts.proofs.similar.suggested_types.Goals.{then-branch+in_ok-push, else-branch}

pub loop-row-preserved : goal.loop-row-preserved
loop-row-preserved c =
    let old = c.loop-row.types.items in
    let lt = c.loop-row-test.true in
    elim c.if-branch.branch [
      | then-branch+in_ok-push w ↦
          more_if c.args.word.now c.args.rows.now c.loop-row.row-index _ lt old c.if-branch.types.items c.loop-row.invariant true (sym w.if-branch.true ∙ c.in_ok-is_suggested.ensures)
          (ap (λ v. v.items) w.types-is ∙ w.in_ok-push.ensures.items)
      | else-branch w ↦
          more_if c.args.word.now c.args.rows.now c.loop-row.row-index _ lt old c.if-branch.types.items c.loop-row.invariant false (sym w.if-branch.false ∙ c.in_ok-is_suggested.ensures)
          (ap (λ v. v.items) w.types-is ∙ sym (append-nil old))
    ]
