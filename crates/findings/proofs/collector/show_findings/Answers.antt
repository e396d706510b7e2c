use Rattle.std.proofs.Common.{take, sym, ◌∙◌, subst, arith}
use Rattle.std.proofs.lemmas.List.{take_all, take_more}
use Rattle.std.proofs.lemmas.Result.{IfOk-weaker}
use Rattle.findings.specs.Collected.{HasCollected}
use Rattle.findings.proofs.collector.show_findings.Goals as goal

pub loop-finding-preserved : goal.loop-finding-preserved
loop-finding-preserved c =
    let i = c.loop-finding.finding-index in
    let before = c.loop-finding.invariant in (
      subst (λ l. HasCollected l c.add.new.self) (sym (take_more c.args.findings.now i _ (omega (arith, c.loop-finding-test.true)))) (c.in_ok-add.ensures.added (take i c.args.findings.now) before.0),
      c.in_ok-add.ensures.policy ∙ before.1,
      c.in_ok-add.ensures.most ∙ before.2,
    )

pub returns : goal.returns
returns c =
    let i = c.loop-finding.finding-index in
    let before = c.loop-finding.invariant in
    IfOk-weaker c.finish.result _ _
    (λ shown of. rw (← take_all i c.args.findings.now (omega (arith, c.loop-finding-test.false)), ← before.1, ← before.2) (of (take i c.args.findings.now) before.0))
    c.finish.ensures.shown
