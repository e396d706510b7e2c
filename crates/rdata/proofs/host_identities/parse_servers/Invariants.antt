use Rattle.std.proofs.Common.{◌≡◌, length}
use Rattle.std.specs.Option.{option_copied}
use Rattle.rdata.specs.HostIdentities.{server_form}
use Rattle.rdata.proofs.TokenRests.{HasEach}
use Rattle.rdata.proofs.host_identities.parse_servers.Given as goal

-- the words so far are parsed
abbrev pub invariant-loop-origin : goal.invariant-loop-origin
invariant-loop-origin g l =
    let left = g.S.TokenSource.left in
    let octets = g.B.AsOctets.octets in
    record {
      taken : HasEach (server_form (option_copied l.fn.origin)) (left l.fn.source) (octets l.fn.target) (left l.source) (octets l.target);
      end : g.S.TokenSource.end l.source ≡ g.S.TokenSource.end l.fn.source;
    }

abbrev pub decreases-loop-origin : goal.decreases-loop-origin
decreases-loop-origin g l = length (g.S.TokenSource.left l.source)
