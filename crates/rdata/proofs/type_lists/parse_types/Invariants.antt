use Rattle.std.proofs.Common.{◌≡◌, length}
use Rattle.rdata.proofs.Namings.{HasNamed}
use Rattle.rdata.proofs.type_lists.parse_types.Given as goal

-- the types of the words so far are in the set
abbrev pub invariant-loop-types : goal.invariant-loop-types
invariant-loop-types g l =
    let left = g.S.TokenSource.left in
    record {
      named : HasNamed l.types (left l.fn.source) (left l.source);
      end : g.S.TokenSource.end l.source ≡ g.S.TokenSource.end l.fn.source;
    }

abbrev pub decreases-loop-types : goal.decreases-loop-types
decreases-loop-types g l = length (g.S.TokenSource.left l.source)
