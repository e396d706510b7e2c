use Rattle.std.proofs.Common.{take, drop}
use Rattle.dns_zone.specs.Documents.{item_steps}
use Rattle.dns_zone.proofs.Written.{Written}
use Rattle.dns_zone.proofs.document.DocumentZonefileFmt.fmt.Given as goal

abbrev pub invariant-loop-item : goal.invariant-loop-item
invariant-loop-item g l = Written g.F.FormatWriter.blocks g.F.FormatWriter.step_gives l.initial.p (item_steps (take l.item-index l.item-items)) (item_steps (drop l.item-index l.item-items)) l.p
