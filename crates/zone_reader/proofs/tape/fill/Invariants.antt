use Rattle.std.proofs.Common.{length}
use Rattle.zone_reader.proofs.Filling.{Filling}
use Rattle.zone_reader.proofs.tape.fill.Given as goal

abbrev pub invariant-pieces : goal.invariant-pieces
invariant-pieces l = record { fills : Filling l.octets l.initial.pieces l.pieces l.ended l.tape.items }

abbrev pub decreases-pieces : goal.decreases-pieces
decreases-pieces l = length l.pieces
