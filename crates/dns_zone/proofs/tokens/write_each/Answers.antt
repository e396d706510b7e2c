use Rattle.std.proofs.Common.{length, ◌<◌, arith, sym}
use Rattle.std.proofs.lemmas.List.{map_more}
use Rattle.dns_zone.specs.Layout.{token}
use Rattle.dns_zone.proofs.Runs.{runs_none, runs_append, runs_step}
use Rattle.dns_zone.proofs.tokens.write_each.Goals as goal

pub loop-item-init : goal.loop-item-init
loop-item-init g c = runs_none _ _ _

pub loop-item-preserved : goal.loop-item-preserved
loop-item-preserved g c =
    let h : c.loop-item.item-index < length c.args.items.now = omega arith in
    rw (map_more (λ x. token (g.T.ZoneToken.text x)) c.args.items.now c.loop-item.item-index c.item-item.result h)
    (rw (sym c.item-item.is)
    (runs_append _ _ _ _ _ _ _ c.loop-item.invariant (runs_step _ _ _ _ _ c.in_ok-write.ensures.blocks c.in_ok-write.ensures.gives)))
