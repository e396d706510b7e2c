use Rattle.std.proofs.Common.{take}
use Rattle.dns_zone.specs.Writers.{WritesSteps}
use Rattle.custom_record.specs.Several.{string_steps}
use Rattle.custom_record.proofs.several.write_strings.Given as goal

abbrev pub invariant-loop-string : goal.invariant-loop-string
invariant-loop-string g l = WritesSteps g.F.FormatWriter.blocks g.F.FormatWriter.step_gives l.initial.p (string_steps (take l.string-index l.strings)) l.p
