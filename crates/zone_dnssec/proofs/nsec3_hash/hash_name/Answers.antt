use Rattle.std.proofs.Common.{length, ap, arith}
use Rattle.dns_wire.proofs.Wires.{length_wire}
use Rattle.zone_dnssec.proofs.nsec3_hash.hash_name.Goals as goal

pub lowered_octets-small-requires : goal.lowered_octets-small-requires
lowered_octets-small-requires c = omega (arith, c.octets_of.ensures.is_name.fits, ap length c.octets_of.ensures.value, length_wire c.args.name.now)
