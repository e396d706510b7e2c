use Rattle.std.proofs.Common.{ℕ, ◌<◌, ◌*◌, get_or}
use Rattle.rdata_values.specs.Hex.{IsPair}
use Rattle.rdata_values.proofs.hex.hex_into.Given as goal

abbrev pub invariant-loop-index : goal.invariant-loop-index
invariant-loop-index l = (k : ℕ) → k < l.index → IsPair l.text (2 * k) (get_or l.octets k 0)
