use Rattle.std.proofs.Common.{length, ◌<◌, arith, sym, refl, ◌∙◌}
use Rattle.dns_zone.specs.Layout.{newline}
use Rattle.dns_zone.proofs.Lines.{lines_more, lines_have_line}
use Rattle.dns_zone.proofs.Runs.{runs_none, runs_append, runs_then_step}
use Rattle.dns_zone.proofs.tokens.write_lines.Goals as goal

pub write_show-requires : goal.write_show-requires
write_show-requires g c = λ _. c.loop-value.invariant.level ∙ c.requires (lines_have_line g.T.ZonefileFmt.document c.args.values.now (omega arith))

pub newline-requires : goal.newline-requires
newline-requires g c =
    c.in_ok-write_show.ensures.level ∙ (c.loop-value.invariant.level ∙ c.requires (lines_have_line g.T.ZonefileFmt.document c.args.values.now (omega arith)))

pub loop-value-init : goal.loop-value-init
loop-value-init g c = runs_none _ _ _

pub loop-value-preserved : goal.loop-value-preserved
loop-value-preserved g c =
    let h : c.loop-value.value-index < length c.args.values.now = omega arith in
    rw (lines_more g.T.ZonefileFmt.document c.args.values.now c.loop-value.value-index c.value-item.result h)
    (rw (sym c.value-item.is)
    (runs_append _ _ _ _ _ _ _ c.loop-value.invariant (runs_then_step _ _ _ _ _ newline _ c.in_ok-write_show.ensures c.in_ok-newline.ensures.gives refl)))
