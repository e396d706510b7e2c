use Rattle.std.proofs.Common.{take}
use Rattle.std.specs.Fmt.{HasWritten, IsPlainFormatter}
use Rattle.rdata_values.specs.Hex.{grouped_text}
use Rattle.rdata_values.proofs.hex.write_groups.Given as goal

abbrev pub invariant-loop-index : goal.invariant-loop-index
invariant-loop-index g l = IsPlainFormatter l.fn.f → HasWritten g.W.Write.write_str_gives l.fn.f (grouped_text l.size l.mark 0 (take l.index l.octets)) l.f
