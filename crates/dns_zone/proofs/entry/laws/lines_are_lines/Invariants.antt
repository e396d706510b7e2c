use Rattle.std.proofs.Common.{take}
use Rattle.dns_zone.specs.EntryFields.{contents_of}
use Rattle.dns_zone.specs.EntryLines.{AreContents}
use Rattle.dns_zone.proofs.entry.laws.lines_are_lines.Given as goal

abbrev pub invariant-loop-field : goal.invariant-loop-field
invariant-loop-field g l = AreContents (contents_of (take l.field-index l.field-items))
