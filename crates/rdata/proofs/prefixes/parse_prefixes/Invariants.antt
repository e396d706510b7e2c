use Rattle.std.proofs.Common.{◌≡◌, length}
use Rattle.rdata.specs.PrefixLists.{prefix_form}
use Rattle.rdata.proofs.TokenRests.{HasEach}
use Rattle.rdata.proofs.prefixes.parse_prefixes.Given as goal

-- the words so far are parsed
abbrev pub invariant-loop-source : goal.invariant-loop-source
invariant-loop-source g l =
    let left = g.S.TokenSource.left in
    let octets = g.B.AsOctets.octets in
    record {
      taken : HasEach prefix_form (left l.fn.source) (octets l.fn.target) (left l.source) (octets l.target);
      end : g.S.TokenSource.end l.source ≡ g.S.TokenSource.end l.fn.source;
    }

abbrev pub decreases-loop-source : goal.decreases-loop-source
decreases-loop-source g l = length (g.S.TokenSource.left l.source)
