use Rattle.std.proofs.Common.{length, ap, arith}
use Rattle.dns_wire.proofs.Wires.{length_wire}
use Rattle.zone_cuts.proofs.signers.is_fitting_ds.Goals as goal

pub lowered_octets-owner-requires : goal.lowered_octets-owner-requires
lowered_octets-owner-requires g c = omega (arith, c.octets_of.ensures.is_name.fits, ap length c.octets_of.ensures.value, length_wire c.args.name.now)
