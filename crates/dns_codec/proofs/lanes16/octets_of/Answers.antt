use Rattle.std.proofs.Common.{◌++◌, arith, length-append}
use Rattle.dns_codec.proofs.VectorsOf16.{joined_lanes}
use Rattle.dns_codec.proofs.lanes16.octets_of.Goals as goal

pub returns-clause-octets : goal.returns-clause-octets
returns-clause-octets c =
    let front = c.args.front in
    let back = c.args.back in
    joined_lanes (front ++ back) (omega (arith, length-append front back, c.fits-front.0, c.fits-back.0)) c.requires
