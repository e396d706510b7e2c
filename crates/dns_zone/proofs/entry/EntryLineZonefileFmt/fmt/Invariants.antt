use Rattle.std.proofs.Common.{take}
use Rattle.dns_zone.specs.EntryFields.{contents_of}
use Rattle.dns_zone.proofs.EntryDocuments.{InLine}
use Rattle.dns_zone.proofs.entry.EntryLineZonefileFmt.fmt.Given as goal

abbrev pub invariant-loop-field : goal.invariant-loop-field
invariant-loop-field g l = InLine g.F.FormatWriter.blocks g.F.FormatWriter.step_gives l.initial.p (contents_of (take l.field-index l.field-items)) l.p
