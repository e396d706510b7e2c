use Rattle.std.proofs.Common.{subst}
use Rattle.rdata_tails.specs.Gateways.{BeginsWithGateway}
use Rattle.rdata_tails.specs.declared.gateway.Gateway.TheVariants.{Ipv4, Ipv6}
use Rattle.rdata.proofs.GatewayLaws.{no_address, address_found, four_octets, sixteen_octets}
use Rattle.rdata.proofs.gateways.address_width.Goals as goal

pub returns-in_err-from_octets : goal.returns-in_err-from_octets
returns-in_err-from_octets c = rw c.from_residual.ensures (no_address c.args.number c.args.octets.now c.in_err-from_octets.ensures)

pub returns-in-Ipv4 : goal.returns-in-Ipv4
returns-in-Ipv4 c =
    let a = c.in-Ipv4.field-0 in
    let front : BeginsWithGateway c.args.number c.args.octets.now (Ipv4 a) = subst (BeginsWithGateway c.args.number c.args.octets.now) c.in-Ipv4.is c.in_ok-from_octets.ensures in
    address_found c.args.number c.args.octets.now (Ipv4 a) 4 front (four_octets a front.0)

pub returns-in-Ipv6 : goal.returns-in-Ipv6
returns-in-Ipv6 c =
    let a = c.in-Ipv6.field-0 in
    let front : BeginsWithGateway c.args.number c.args.octets.now (Ipv6 a) = subst (BeginsWithGateway c.args.number c.args.octets.now) c.in-Ipv6.is c.in_ok-from_octets.ensures in
    address_found c.args.number c.args.octets.now (Ipv6 a) 16 front (sixteen_octets a front.0)
