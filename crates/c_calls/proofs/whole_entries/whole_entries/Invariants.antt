use Rattle.c_calls.proofs.Wholes.{ReadsPieces}
use Rattle.c_calls.proofs.whole_entries.whole_entries.Given as goal

abbrev pub invariant-pieces : goal.invariant-pieces
invariant-pieces l = ReadsPieces l.text l.at l.whole l.ended l.pieces
