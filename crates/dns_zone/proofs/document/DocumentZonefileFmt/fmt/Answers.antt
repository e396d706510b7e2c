use Rattle.std.proofs.Common.{length, ◌<◌, arith}
use Rattle.dns_zone.proofs.Scanned.{front_more, rest_more}
use Rattle.dns_zone.proofs.Written.{written_more, written_none}
use Rattle.dns_zone.specs.DocumentSteps.{document_nests}
use Rattle.dns_zone.proofs.document.DocumentZonefileFmt.fmt.Goals as goal

pub loop-item-preserved : goal.loop-item-preserved
loop-item-preserved g c =
    let h : c.loop-item.item-index < length c.deref-item-items.result.now = omega arith in
    let rest = rest_more c.deref-item-items.result.now c.loop-item.item-index c.item-item.result h c.item-item.is in
    rw (front_more c.deref-item-items.result.now c.loop-item.item-index c.item-item.result h c.item-item.is)
    (written_more _ _ _ _ _ _ _ _ (rw rest at c.loop-item.invariant) c.in_ok-write_item.ensures)

pub loop-item-init : goal.loop-item-init
loop-item-init g c = rw (c.deref-item-items.ensures.value) (written_none _ _ _ _ (document_nests c.args.self.now) c.requires)
