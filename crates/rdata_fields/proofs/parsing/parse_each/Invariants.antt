use Rattle.std.proofs.Common.{◌≡◌, length}
use Rattle.std.specs.Option.{option_copied}
use Rattle.rdata_fields.proofs.Takings.{HasTakenSome}
use Rattle.rdata_fields.proofs.parsing.parse_each.Given as goal

-- the tokens so far are parsed
abbrev pub invariant-loop-field : goal.invariant-loop-field
invariant-loop-field g l =
    let left = g.S.TokenSource.left in
    let octets = g.B.AsOctets.octets in
    record {
      taken : HasTakenSome (option_copied l.origin) l.field (left l.fn.source) (octets l.fn.target) (left l.source) (octets l.target);
      end : g.S.TokenSource.end l.source ≡ g.S.TokenSource.end l.fn.source;
    }

abbrev pub decreases-loop-field : goal.decreases-loop-field
decreases-loop-field g l = length (g.S.TokenSource.left l.source)
