use Rattle.std.proofs.Common.{length, ap, arith}
use Rattle.dns_wire.proofs.Wires.{length_wire}
use Rattle.zone_dnssec.proofs.hashes.Hashes.hash.Goals as goal

pub copied_octets-copy-requires : goal.copied_octets-copy-requires
copied_octets-copy-requires g c = omega (arith, c.octets_of-octets.ensures.is_name.fits, ap length c.octets_of-octets.ensures.value, length_wire c.args.name.now)
