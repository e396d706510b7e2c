use Rattle.std.proofs.Common.{length}
use Rattle.zone_stream.proofs.Stops.{Open}
use Rattle.zone_stream.proofs.entry.first_entry.Given as goal

abbrev pub invariant-loop-piece : goal.invariant-loop-piece
invariant-loop-piece l = record { stands : Open l.initial.pieces l.pieces }

abbrev pub decreases-loop-piece : goal.decreases-loop-piece
decreases-loop-piece l = length l.pieces
