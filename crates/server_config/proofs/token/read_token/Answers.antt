use Rattle.std.proofs.Common.{ap, ◌∙◌, arith, Err}
use Rattle.server_config.proofs.TokenSteps.{gap_passed, lexeme_read, lexeme_rejected, none_left, token_begins, token_found}
use Rattle.server_config.proofs.token.read_token.Goals as goal

pub loop-at-init : goal.loop-at-init
loop-at-init c = record { after = omega arith; left = token_begins c.args.syntax c.args.text.now c.args.from }

pub returns-in-Token-clause-value : goal.returns-in-Token-clause-value
returns-in-Token-clause-value c =
    let a = c.args in
    let l = c.loop-at in
    let is = lexeme_read a.syntax a.text.now l.at c.read_lexeme.result _ c.read_lexeme.ensures.value c.in-Ok.is in
    token_found a.syntax a.text.now a.from l.at c.loop-at-test.true c.in-Ok.lexeme c.in-Token.kind c.in-Token.is is l.invariant.left

pub loop-at-preserved : goal.loop-at-preserved
loop-at-preserved c =
    let a = c.args in
    let l = c.loop-at in
    let x = c.in-Ok.lexeme in
    let inside = c.in-Ok.ensures.within in
    let is = lexeme_read a.syntax a.text.now l.at c.read_lexeme.result _ c.read_lexeme.ensures.value c.in-Ok.is in
    record {
      after = omega (arith, l.invariant.after);
      left = gap_passed a.syntax a.text.now a.from l.at c.loop-at-test.true x inside.0 c.in-Gap.is is l.invariant.left;
    }

pub returns-in-Err-clause-value : goal.returns-in-Err-clause-value
returns-in-Err-clause-value c =
    let a = c.args in
    let l = c.loop-at in
    let is = lexeme_read a.syntax a.text.now l.at c.read_lexeme.result _ c.read_lexeme.ensures.value c.in-Err.is in
    ap (λ e. Err e) c.between.ensures ∙ lexeme_rejected a.syntax a.text.now a.from l.at c.loop-at-test.true c.in-Err.kind is l.invariant.left

pub returns-clause-value : goal.returns-clause-value
returns-clause-value c = none_left c.args.syntax c.args.text.now c.args.from c.loop-at.at c.loop-at-test.false c.loop-at.invariant.left
