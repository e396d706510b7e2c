use Rattle.std.proofs.Common.{arith}
use Rattle.zone_update.proofs.Apart.{apart_or_not}
use Rattle.zone_update.proofs.parts.are_apart.Goals as goal

pub returns-else-count-operations : goal.returns-else-count-operations
returns-else-count-operations g c =
    let l = c.index-operations-count in
    let r = c.index-operations-count-else-count-operations in
    apart_or_not c.args.names.now c.args.operations.now c.args.count l.result r.result c.requires.some (omega (arith, c.requires.within, c.if-count-operations.false)) l.is r.is
    c.belong_together.result c.belong_together.ensures
