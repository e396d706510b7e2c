use Rattle.std.proofs.Common.{◌≡◌, drop}
use Rattle.std.specs.List.{list_all}
use Rattle.zone_generate.proofs.DigitTexts.{decimal_digit}
use Rattle.zone_generate.proofs.numeral.are_digits.Given as goal

abbrev pub invariant-loop-byte : goal.invariant-loop-byte
invariant-loop-byte l = list_all decimal_digit l.text ≡ list_all decimal_digit (drop l.byte-index l.text)
