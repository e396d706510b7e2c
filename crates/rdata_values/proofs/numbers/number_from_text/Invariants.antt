use Rattle.std.proofs.Common.{drop}
use Rattle.rdata_values.proofs.NumberLemmas.{Reading}
use Rattle.rdata_values.proofs.numbers.number_from_text.Given as goal

abbrev pub invariant-loop-byte : goal.invariant-loop-byte
invariant-loop-byte l = Reading l.text l.number (drop l.byte-index l.text)
