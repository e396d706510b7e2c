use Rattle.std.proofs.Common.{arith}
use Rattle.rdata_values.proofs.TypesOf.{entered}
use Rattle.rdata_values.proofs.bitmap.enter_block.Goals as goal

pub returns-clause-left : goal.returns-clause-left
returns-clause-left c = entered c.args.rest.now c.min-end.result c.from.result (omega arith) c.from.ensures (omega (arith, c.min-end.ensures))
