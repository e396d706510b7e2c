use Rattle.std.proofs.Common.{◌≡◌, length}
use Rattle.rdata_svcb.proofs.ParamSequences.{TakesParams}
use Rattle.rdata_svcb.proofs.parsing.parse_params.Given as goal

-- the parameters so far
abbrev pub invariant-loop-source : goal.invariant-loop-source
invariant-loop-source g l =
    let left = g.S.TokenSource.left in
    let octets = g.B.AsOctets.octets in
    record {
      taken : TakesParams (left l.fn.source) (left l.source) (octets l.fn.target) (octets l.target);
      start : l.start ≡ length (octets l.fn.target);
      end : g.S.TokenSource.end l.source ≡ g.S.TokenSource.end l.fn.source;
    }

abbrev pub decreases-loop-source : goal.decreases-loop-source
decreases-loop-source g l = length (g.S.TokenSource.left l.source)
