use Rattle.std.proofs.Common.{◌<◌, ap, sym, ◌∙◌, arith, Ok}
use Rattle.server_config.proofs.ClauseSteps.{clause_begins, nothing_left, word_passed}
use Rattle.server_config.proofs.clause.next_clause.Goals as goal

pub loop-at-init : goal.loop-at-init
loop-at-init c = record { counted = omega arith; after = omega arith; left = clause_begins c.args.text.now c.args.from }

pub loop-at-preserved : goal.loop-at-preserved
loop-at-preserved c =
    let a = c.args in
    let l = c.loop-at in
    let t = c.in-Ok-Some.token in
    let is = sym c.next_token.ensures.value ∙ c.in-Ok-Some.is ∙ ap (λ o. Ok o) c.in-Ok-Some.field-0-is in
    let within = rw c.in-Ok-Some.field-0-is at c.in-Ok-Some.ensures.within in
    let later : l.at < t.end = omega (arith, within.0, within.1) in
    record {
      counted = omega (arith, l.invariant.counted, later);
      after = omega (arith, l.invariant.after, later);
      left = word_passed a.text.now a.from l.words l.at c.loop-at-test.true t later (sym c.clause_end.ensures ∙ c.in-None.is) is l.invariant.left;
    }

pub returns-clause-value : goal.returns-clause-value
returns-clause-value c =
    ap (λ k. Ok k) c.last_clause-2.ensures ∙ nothing_left c.args.text.now c.args.from c.loop-at.words c.loop-at.at c.loop-at-test.false c.loop-at.invariant.left
