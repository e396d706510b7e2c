use Rattle.std.proofs.Common.{◌+◌, drop, sym, ap, ◌∙◌, arith}
use Rattle.zone_check.specs.Names.{ends_in_dot}
use Rattle.zone_check.proofs.DotsAtEnd.{passed_octet}
use Rattle.zone_check.proofs.names.ends_in_dot.Goals as goal

pub loop-at-preserved : goal.loop-at-preserved
loop-at-preserved c =
    let text = c.args.text.now in
    let at = c.loop-at.at in
    c.loop-at.invariant ∙ passed_octet text at (omega (arith, c.loop-at-test.true, c.if-at-text.false)) ∙ sym (ap (λ n. ends_in_dot (drop (at + n) text)) c.passed_with-at.ensures)
