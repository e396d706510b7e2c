use Rattle.std.proofs.Common.{arith}
use Rattle.rdata_values.proofs.NumberLemmas.{digit_more, number_small}
use Rattle.rdata_values.proofs.time.number_of.Goals as goal

pub overflow_mul-number : goal.overflow_mul-number
overflow_mul-number c =
    let more = digit_more c.args.digits.now c.loop-digit.digit-index c.loop-digit.number c.loop-digit-test.true c.requires.digits c.requires.few c.loop-digit.invariant in
    omega (arith, more.small)

pub returns-clause-small : goal.returns-clause-small
returns-clause-small c = number_small c.args.digits.now c.loop-digit.digit-index c.loop-digit.number c.loop-digit-test.false c.requires.digits c.loop-digit.invariant
