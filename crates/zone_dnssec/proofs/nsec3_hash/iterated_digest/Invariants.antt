use Rattle.std.proofs.Common.{◌≡◌}
use Rattle.zone_dnssec.specs.HashedNames.{iterated_hash}
use Rattle.zone_dnssec.proofs.nsec3_hash.iterated_digest.Given as goal

abbrev pub invariant-loop-round : goal.invariant-loop-round
invariant-loop-round l = l.digest ≡ iterated_hash l.salt l.octets l._round
