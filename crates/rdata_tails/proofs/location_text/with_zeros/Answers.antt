use Rattle.std.proofs.Common.{◌^◌, ap, arith, ◌∙◌}
use Rattle.rdata_tails.proofs.HeightLemmas.{zeros_fit}
use Rattle.rdata_tails.proofs.location_text.with_zeros.Goals as goal

pub overflow_mul-result : goal.overflow_mul-result
overflow_mul-result c =
    let unit = c.pow.ensures ∙ ap (λ n. 10 ^ n) c.from-2.ensures in
    omega (arith, zeros_fit c.args.digit c.args.zeros c.from.result c.pow.result (omega (arith, c.ranges.digit.fits)) c.requires c.from.ensures unit)
