use Rattle.std.proofs.Common.{◌≡◌, drop}
use Rattle.dns_wire.proofs.name_iter.label_at.Given as goal

abbrev pub invariant-loop : goal.invariant-loop
invariant-loop l = l.labels ≡ drop l.counter l.fn.labels
