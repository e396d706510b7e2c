use Rattle.std.proofs.Common.{arith}
use Rattle.rdata_values.proofs.GroupLemmas.{group_more}
use Rattle.rdata_values.proofs.locator.number_of.Goals as goal

pub overflow_mul-number : goal.overflow_mul-number
overflow_mul-number c =
    let more = group_more c.args.digits.now c.loop-digit.digit-index c.loop-digit.number c.loop-digit-test.true c.requires.digits c.requires.few c.loop-digit.invariant in
    omega (arith, more.small)
