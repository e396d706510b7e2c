use Rattle.error_texts.proofs.Digits.{one_digit_cut, digit_more_cut}
use Rattle.error_texts.proofs.buffer.«+append_number».Goals as goal

pub returns-then-number-lt10 : goal.returns-then-number-lt10
returns-then-number-lt10 t c = one_digit_cut _ _ c.args.number c.if-number-lt10.true c.append_digit.ensures

pub returns-else-number-lt10 : goal.returns-else-number-lt10
returns-else-number-lt10 t c =
    digit_more_cut _ _ _ c.args.number c.if-number-lt10.false c.ranges.number.fits c.append_number.ensures c.append_digit-else-number-lt10.ensures
