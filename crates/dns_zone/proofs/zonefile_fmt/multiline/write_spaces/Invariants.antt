use Rattle.std.proofs.Common.{replicate, ◌*◌}
use Rattle.std.specs.Fmt.{WritesInCalls}
use Rattle.dns_symbol.specs.Characters.{space}
use Rattle.dns_zone.proofs.zonefile_fmt.multiline.write_spaces.Given as goal

abbrev pub invariant-loop-slice : goal.invariant-loop-slice
invariant-loop-slice g l = WritesInCalls g.W.Write.write_str_gives l.initial.writer (replicate (l._slice * 64) space) l.writer
