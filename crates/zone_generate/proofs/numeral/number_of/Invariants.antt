use Rattle.std.proofs.Common.{drop}
use Rattle.zone_generate.proofs.DigitTexts.{DigitsLeft}
use Rattle.zone_generate.proofs.numeral.number_of.Given as goal

abbrev pub invariant-loop-byte : goal.invariant-loop-byte
invariant-loop-byte l = DigitsLeft l.text l.number (drop l.byte-index l.text)
