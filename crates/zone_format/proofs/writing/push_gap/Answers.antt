use Rattle.std.proofs.Common.{sym, ◌∙◌, arith}
use Rattle.zone_format.proofs.Moving.{gap_blank, gap_turn}
use Rattle.zone_format.proofs.writing.push_gap.Goals as goal

pub loop-octet-preserved : goal.loop-octet-preserved
loop-octet-preserved g c = gap_turn c.args.gap.now _ _ _ _ _ _ c.loop-octet.octet-index (omega (arith, c.loop-octet-test.true)) c.loop-octet.invariant c.in_ok-line_state.ensures

pub loop-octet-preserved-then-is_blank : goal.loop-octet-preserved-then-is_blank
loop-octet-preserved-then-is_blank g c = gap_blank c.args.gap.now _ _ _ _ c.loop-octet.octet-index (omega (arith, c.loop-octet-test.true)) (sym c.is_blank.ensures ∙ c.if-is_blank.true) c.loop-octet.invariant
