use Rattle.rdata_svcb.proofs.KeyNames.{with_zeros, is_decimal, none_decimal}
use Rattle.rdata_svcb.proofs.keys.number_of.Goals as goal

pub returns-then-has_zeros : goal.returns-then-has_zeros
returns-then-has_zeros c = λ n small e. with_zeros c.args.digits.now n c.if-has_zeros.ensures small e

pub returns-in-Ok : goal.returns-in-Ok
returns-in-Ok c = (c.in-Ok.ensures.1, is_decimal c.args.digits.now c.in-Ok.number c.if-has_zeros.ensures c.in-Ok.ensures.0 c.in-Ok.ensures.1)

pub returns-in-Err : goal.returns-in-Err
returns-in-Err c = λ n small e. none_decimal c.args.digits.now n _ c.in-Err.ensures small e
