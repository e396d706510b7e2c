use Rattle.std.proofs.Common.{take}
use Rattle.dns_zone.specs.Nesting.{lines_of}
use Rattle.dns_zone.specs.Writers.{WritesSteps}
use Rattle.dns_zone.proofs.tokens.write_lines.Given as goal

abbrev pub invariant-loop-value : goal.invariant-loop-value
invariant-loop-value g l = WritesSteps g.F.FormatWriter.blocks g.F.FormatWriter.step_gives l.initial.p (lines_of g.T.ZonefileFmt.document (take l.value-index l.values)) l.p
