use Rattle.std.proofs.Common.{◌≡◌, [], length}
use Rattle.rdata_tokens.specs.Reading.{DigitsState, HasRead}
use Rattle.rdata.proofs.Joinings.{HasJoined}
use Rattle.rdata.proofs.digits.parse_digits.Given as goal

-- the words so far are pushed
abbrev pub invariant-loop-reader : goal.invariant-loop-reader
invariant-loop-reader g l =
    let left = g.S.TokenSource.left in
    let octets = g.B.AsOctets.octets in
    record {
      joined : (first : DigitsState) × (first.kind ≡ l.fn.kind) × HasRead first [] [] × HasJoined first l.reader (left l.fn.source) (octets l.fn.target) (left l.source) (octets l.target);
      end : g.S.TokenSource.end l.source ≡ g.S.TokenSource.end l.fn.source;
    }

abbrev pub decreases-loop-reader : goal.decreases-loop-reader
decreases-loop-reader g l = length (g.S.TokenSource.left l.source)
