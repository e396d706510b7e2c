use Rattle.std.proofs.lemmas.Result.{err_from_is_err_and}
use Rattle.rdata_tokens.proofs.TokenLemmas.{match_ok, match_err}
use Rattle.rdata_tails.proofs.NsapLaws.{HasPushed, dot_pushed, digit_pushed, digit_refused, all_read, all_gained, all_refused}
use Rattle.rdata_tails.proofs.nsap.append_dotted.Goals.{then-dotted-at-ne46+in_ok-push, else-dotted-at-ne46}
use Rattle.rdata_tails.proofs.nsap.append_dotted.Goals as goal

pub returns-in_err-push-clause-why : goal.returns-in_err-push-clause-why
returns-in_err-push-clause-why g c =
    let p = err_from_is_err_and c.from_residual.result c.from_residual.ensures.1 in
    rw (p.1, p.2) (digit_refused g.B.OctetsBuilder.room c.loop-at.reader c.args.dotted.now c.loop-at.at _ _ c.in_err-push.field-0.0 c.loop-at-test.true c.if-dotted-at-ne46.true c.loop-at.invariant c.in_err-push.ensures.err)

pub loop-at-preserved : goal.loop-at-preserved
loop-at-preserved g c = elim c.if-dotted-at-ne46.branch [
  | then-dotted-at-ne46+in_ok-push w ↦ rw (w.reader-is, w.target-is) (digit_pushed c.loop-at.reader _ c.args.dotted.now c.loop-at.at _ _ _ c.loop-at-test.true w.if-dotted-at-ne46.true c.loop-at.invariant w.in_ok-push.ensures.ok)
  | else-dotted-at-ne46 w ↦ rw (w.reader-is, w.target-is) (dot_pushed c.loop-at.reader c.args.dotted.now c.loop-at.at _ _ c.loop-at-test.true w.if-dotted-at-ne46.false c.loop-at.invariant)
]

pub returns-clause-ok : goal.returns-clause-ok
returns-clause-ok g c =
    let h = c.loop-at.invariant in
    let read = all_read c.loop-at.reader c.args.dotted.now c.loop-at.at _ _ c.loop-at-test.false h in
    match_ok c.finish.result _ _ _ (c.finish.ensures.whole _ h.gained read) (λ x spelled. all_gained c.loop-at.reader c.args.dotted.now c.loop-at.at _ _ c.loop-at-test.false h spelled)

pub returns-clause-why : goal.returns-clause-why
returns-clause-why g c =
    let h = c.loop-at.invariant in
    let read = all_read c.loop-at.reader c.args.dotted.now c.loop-at.at _ _ c.loop-at-test.false h in
    match_err c.finish.result _ _ _ _ _ c.finish.ensures.begun (c.finish.ensures.whole _ h.gained read)
    (λ e is never. all_refused c.loop-at.reader c.args.dotted.now c.loop-at.at _ _ c.loop-at-test.false h g.B.OctetsBuilder.room e is.1 never)
