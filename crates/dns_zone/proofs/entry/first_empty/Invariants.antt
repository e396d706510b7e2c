use Rattle.std.proofs.Common.{take}
use Rattle.dns_zone.specs.EntryFields.{contents_of}
use Rattle.dns_zone.specs.EntryLines.{IsLine}
use Rattle.dns_zone.proofs.entry.first_empty.Given as goal

abbrev pub invariant-loop-place : goal.invariant-loop-place
invariant-loop-place g l = IsLine (contents_of (take l.place l.fields))
