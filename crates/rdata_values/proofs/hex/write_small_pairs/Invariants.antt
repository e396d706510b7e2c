use Rattle.std.proofs.Common.{take}
use Rattle.std.specs.Fmt.{HasWritten, IsPlainFormatter}
use Rattle.rdata_values.specs.Hex.{small_pairs}
use Rattle.rdata_values.proofs.hex.write_small_pairs.Given as goal

abbrev pub invariant-loop-octet : goal.invariant-loop-octet
invariant-loop-octet g l = IsPlainFormatter l.fn.f → HasWritten g.W.Write.write_str_gives l.fn.f (small_pairs (take l.octet-index l.octets)) l.f
