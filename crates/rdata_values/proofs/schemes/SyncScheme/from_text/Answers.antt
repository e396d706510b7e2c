use Rattle.std.proofs.Common.{arith}
use Rattle.rdata_values.proofs.SchemeLaws.{scheme_within}
use Rattle.rdata_values.proofs.schemes.SyncScheme.from_text.Goals as goal

pub overflow_cast-result : goal.overflow_cast-result
overflow_cast-result c = let small = scheme_within c.args.text.now c.in-Ok.code c.in-Ok.ensures in omega (arith, small)

pub returns-in-Err : goal.returns-in-Err
returns-in-Err c = (c.in-Err.ensures.0, λ s h. c.in-Err.ensures.1 s.0 h)
