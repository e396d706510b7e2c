use Rattle.std.proofs.Common.{◌≡◌, ◌++◌, List, length}
use Rattle.c_calls.specs.Entries.{tokens_of, stop_of, written_over_start, counted}
use Rattle.c_calls.specs.declared.tokens.Token.{Token}
use Rattle.c_calls.proofs.tokens.read_entry.Given as goal

abbrev pub invariant-loop-token : goal.invariant-loop-token
invariant-loop-token l =
    (found : List Token) × (tokens_of l.initial.pieces ≡ found ++ tokens_of l.pieces) × (stop_of l.initial.pieces ≡ stop_of l.pieces)
    × (l.count ≡ counted (length found)) × (l.tokens ≡ written_over_start found l.initial.tokens)

abbrev pub decreases-loop-token : goal.decreases-loop-token
decreases-loop-token l = length l.pieces
