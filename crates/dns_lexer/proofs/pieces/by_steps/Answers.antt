use Rattle.std.proofs.Common.{◌+◌, ◌∷◌, ℕ, drop, sym, ap, ◌∙◌, arith}
use Rattle.std.specs.Prelude.{Ok}
use Rattle.dns_lexer.specs.declared.reader.Mode.TheVariants.{Outside}
use Rattle.dns_lexer.specs.Run.{run}
use Rattle.dns_lexer.proofs.Steps.{step_depth}
use Rattle.dns_lexer.proofs.PieceSteps.{closed_then, finished_then, turn_closed, turn_finished, turn_on}
use Rattle.dns_lexer.proofs.pieces.by_steps.Goals as goal

pub returns-in-Some-closed : goal.returns-in-Some-closed
returns-in-Some-closed c =
    let inv = c.loop-at.invariant in
    let went = sym c.step.ensures ∙ c.in-Some.is in
    let ends = sym c.closed.ensures ∙ c.in-Some-closed.is in
    let t =
    turn_closed c.args.octets.now c.loop-at.mode c.loop-at.depth c.loop-at.start c.loop-at.at c.args.begins_blank _ c.in-Some-closed.piece c.in-Some.next
    (omega (arith, c.loop-at-test.true)) c.from.ensures went ends in
    record {
      within = omega (arith, c.loop-at-test.true);
      deep = inv.deep;
      same = sym inv.left ∙ t;
      blank = λ _. closed_then c.args.octets.now c.loop-at.mode _ _ c.loop-at.start c.loop-at.at c.args.begins_blank _ ends;
    }

pub returns-in-Some-finished : goal.returns-in-Some-finished
returns-in-Some-finished c =
    let inv = c.loop-at.invariant in
    let octets = c.args.octets.now in
    let v = c.in-Some.next in
    let after : ℕ = c.loop-at.at + 1 in
    let went = sym c.step.ensures ∙ c.in-Some.is in
    let d = step_depth c.loop-at.mode c.loop-at.depth _ v went in
    let t = turn_finished octets c.loop-at.mode c.loop-at.depth c.loop-at.start c.loop-at.at c.args.begins_blank _ c.in-Some-finished.piece v (omega (arith, c.loop-at-test.true)) c.from.ensures went
    (sym c.closed.ensures ∙ c.in_default-closed.is) (sym c.finished.ensures ∙ c.in-Some-finished.is) in
    record {
      within = omega (arith, c.loop-at-test.true);
      deep = omega (arith, d, inv.deep);
      same = sym inv.left ∙ t ∙ ap (λ x. Ok c.in-Some-finished.piece ∷ run Outside v.depth after after x (drop after octets)) (sym c.blank_after.ensures);
      blank = λ _. c.blank_after.ensures ∙ finished_then octets v.act c.loop-at.start after c.args.begins_blank _ (sym c.finished.ensures ∙ c.in-Some-finished.is);
    }

pub loop-at-preserved : goal.loop-at-preserved
loop-at-preserved c =
    let inv = c.loop-at.invariant in
    let octets = c.args.octets.now in
    let v = c.in-Some.next in
    let after : ℕ = c.loop-at.at + 1 in
    let went = sym c.step.ensures ∙ c.in-Some.is in
    let d = step_depth c.loop-at.mode c.loop-at.depth _ v went in
    let t = turn_on octets c.loop-at.mode c.loop-at.depth c.loop-at.start c.loop-at.at c.args.begins_blank _ v (omega (arith, c.loop-at-test.true)) c.from.ensures went
    (sym c.closed.ensures ∙ c.in_default-closed.is) (sym c.finished.ensures ∙ c.in_default-finished.is) in
    record {
      deep = omega (arith, d, inv.deep);
      within = omega (arith, c.loop-at-test.true);
      left = ap (λ n. run v.mode v.depth n after c.args.begins_blank (drop after octets)) c.start_after-start.ensures ∙ sym t ∙ inv.left;
    }
