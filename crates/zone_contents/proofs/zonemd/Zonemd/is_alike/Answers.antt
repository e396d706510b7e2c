use Rattle.std.proofs.Common.{length, ap, arith}
use Rattle.zone_contents.proofs.ZonemdParts.{zonemd_long}
use Rattle.zone_contents.proofs.zonemd.Zonemd.is_alike.Goals as goal

pub bounds-octets-4 : goal.bounds-octets-4
bounds-octets-4 g c = omega (arith, zonemd_long c.args.data.now c.requires c.as_slice-octets.ensures.is_data, ap length c.as_slice-octets.ensures.value)

pub bounds-octets-5 : goal.bounds-octets-5
bounds-octets-5 g c = omega (arith, zonemd_long c.args.data.now c.requires c.as_slice-octets.ensures.is_data, ap length c.as_slice-octets.ensures.value)
