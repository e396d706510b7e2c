use Rattle.std.proofs.Common.{length, ◌≡◌}
use Rattle.dns_wire.proofs.Iterating.{Seeks}
use Rattle.dns_wire.proofs.name_iter.NameIterDoubleEndedIterator.next_back.Given as goal

abbrev pub invariant-loop-label : goal.invariant-loop-label
invariant-loop-label l = record {
  seeks : Seeks l.initial.self-inside.labelled.0 l.rest l.place;
  same : l.self-inside ≡ l.initial.self-inside;
}

abbrev pub decreases-loop-label : goal.decreases-loop-label
decreases-loop-label l = length l.rest
