use Rattle.std.proofs.Common.{sym, ◌∙◌}
use Rattle.zone_generate.proofs.DigitTexts.{numeral_overflows}
use Rattle.zone_generate.proofs.numeral.numeral.Goals as goal

pub returns-in-None : goal.returns-in-None
returns-in-None c = numeral_overflows c.args.most c.args.bad c.args.large c.args.text.now c.ranges.most.fits (sym c.are_digits.ensures ∙ c.if-not-are_digits.false) c.in-None.ensures
