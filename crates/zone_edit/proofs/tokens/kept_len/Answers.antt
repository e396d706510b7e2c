use Rattle.std.proofs.Common.{ℕ, Bool, refl, sym, ap, ◌∙◌, ◌+◌, arith, cond, drop, slice_index_or, drop_of_length-le}
use Rattle.zone_edit.specs.Tokens.{comment_continues, kept_len}
use Rattle.zone_edit.proofs.Gaps.{kept_after, kept_next}
use Rattle.zone_edit.proofs.tokens.kept_len.Goals as goal
use Rattle.zone_edit.proofs.tokens.kept_len.Goals.{then-stays, else-stays}

pub loop-octet-preserved : goal.loop-octet-preserved
loop-octet-preserved c =
    let gap = c.args.gap.now in
    let l = c.loop-octet in
    let i = l.octet-index in
    let octet = slice_index_or gap i 0 in
    let next = kept_next gap i octet l.is_comment l.kept l.at c.loop-octet-test.true refl in
    let kept_then : ℕ → Bool → ℕ = λ kept is_comment. kept_after kept (l.at + 1) (kept_len is_comment (drop (i + 1) gap)) in
    elim c.if-stays.branch [
      | then-stays w ↦ record {
        counted = omega (arith, l.invariant.counted);
        within = omega (arith, w.kept-is);
        kept = l.invariant.kept ∙ next ∙ ap (λ b. kept_then (cond b (l.at + 1) l.kept) (comment_continues l.is_comment octet)) (sym c.stays.ensures ∙ w.if-stays.true)
            ∙ ap (λ k. kept_then k (comment_continues l.is_comment octet)) (sym w.kept-is) ∙ ap (kept_then c.if-stays.kept) (sym c.comment_continues-is_comment.ensures);
      }
      | else-stays w ↦ record {
        counted = omega (arith, l.invariant.counted);
        within = omega (arith, w.kept-is, l.invariant.within);
        kept = l.invariant.kept ∙ next ∙ ap (λ b. kept_then (cond b (l.at + 1) l.kept) (comment_continues l.is_comment octet)) (sym c.stays.ensures ∙ w.if-stays.false)
            ∙ ap (λ k. kept_then k (comment_continues l.is_comment octet)) (sym w.kept-is) ∙ ap (kept_then c.if-stays.kept) (sym c.comment_continues-is_comment.ensures);
      }
    ]

pub returns-clause-kept : goal.returns-clause-kept
returns-clause-kept c =
    let l = c.loop-octet in
    sym (l.invariant.kept ∙ ap (λ xs. kept_after l.kept l.at (kept_len l.is_comment xs)) (drop_of_length-le c.args.gap.now (omega (arith, c.loop-octet-test.false))))
