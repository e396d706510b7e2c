use Rattle.std.proofs.Common.{◌/◌, arith, ap, length, length-append, decimal}
use Rattle.c_calls.proofs.Decimals.{some_digit, one_digit, digits_before, digit_more}
use Rattle.c_calls.proofs.kinds.«+push_decimal».Goals as goal

pub push_decimal-requires : goal.push_decimal-requires
push_decimal-requires t c = (omega arith, omega (arith, c.requires, digits_before c.args.number c.if-number-lt10.false c.ranges.number.fits))

pub push-requires : goal.push-requires
push-requires t c = (omega arith, omega (arith, c.requires, some_digit c.args.number c.ranges.number.fits))

pub push-requires-else-number-lt10 : goal.push-requires-else-number-lt10
push-requires-else-number-lt10 t c =
    let before = ap length c.push_decimal.ensures in
    let long = length-append c.args.text.now.items (decimal (c.args.number / 10)) in
    (omega arith, omega (arith, c.requires, before, long, digits_before c.args.number c.if-number-lt10.false c.ranges.number.fits))

pub returns-then-number-lt10 : goal.returns-then-number-lt10
returns-then-number-lt10 t c = one_digit _ _ c.args.number c.if-number-lt10.true c.push.ensures.items

pub returns-else-number-lt10 : goal.returns-else-number-lt10
returns-else-number-lt10 t c =
    digit_more _ _ _ c.args.number c.if-number-lt10.false c.ranges.number.fits c.push_decimal.ensures c.push-else-number-lt10.ensures.items
