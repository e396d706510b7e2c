use Rattle.std.proofs.Common.{arith}
use Rattle.dns_wire.specs.Label.{label_octets}
use Rattle.dns_wire.proofs.Iterating.{drop_next}
use Rattle.dns_wire.proofs.name_iter.label_at.Goals as goal

pub loop-preserved : goal.loop-preserved
loop-preserved c = drop_next label_octets c.args.labels c.loop.labels c.next.new.self c.loop.counter c.next.result c.loop.invariant (omega arith) c.next.ensures.steps
