use Rattle.std.proofs.Common.{arith}
use Rattle.c_calls.proofs.Decimals.{five_digits, begun_prefix}
use Rattle.c_calls.proofs.kinds.numbered.Goals as goal

pub push_decimal-requires : goal.push_decimal-requires
push_decimal-requires c =
    let begun = begun_prefix _ _ _ _ c.requires c.as_bytes-octet-items.ensures.value c.loop-octet.invariant in
    omega (arith, begun, five_digits c.args.number c.ranges.number.fits)
