use Rattle.std.proofs.Common.{take}
use Rattle.std.specs.List.{All}
use Rattle.dns_zone.proofs.tokens.known_lines.Given as goal

abbrev pub invariant-loop-value : goal.invariant-loop-value
invariant-loop-value g l = All g.T.ZoneTokens.holds (take l.value-index l.values)
