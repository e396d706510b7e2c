use Rattle.std.proofs.Common.{length, None}
use Rattle.rdata.specs.RestKinds.{strings_form}
use Rattle.zone_record.proofs.PrintedTokens.{HasPrinted}
use Rattle.zone_record.proofs.rdata_print.write_strings.Given as goal

abbrev pub invariant-loop-rest : goal.invariant-loop-rest
invariant-loop-rest g l =
    HasPrinted g.F.FormatWriter.blocks g.F.FormatWriter.step_gives l.fn.p ((strings_form None).printed l.octets) ((strings_form None).printed l.rest) l.p

abbrev pub decreases-loop-rest : goal.decreases-loop-rest
decreases-loop-rest g l = length l.rest
