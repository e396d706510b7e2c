use Rattle.std.proofs.Common.{take}
use Rattle.dns_zone.specs.Tokens.{one_each}
use Rattle.dns_zone.specs.Writers.{WritesSteps}
use Rattle.dns_zone.proofs.tokens.write_each.Given as goal

abbrev pub invariant-loop-item : goal.invariant-loop-item
invariant-loop-item g l = WritesSteps g.F.FormatWriter.blocks g.F.FormatWriter.step_gives l.initial.p (one_each g.T.ZoneToken.text (take l.item-index l.items)) l.p
