use Rattle.std.proofs.Common.{arith}
use Rattle.rdata.proofs.GatewayPrints.{key_long, gateway_front_is, gateway_in_front}
use Rattle.rdata.proofs.gateways.key_gateway_width.Goals as goal

pub slice_bounds-gateway_width-start : goal.slice_bounds-gateway_width-start
slice_bounds-gateway_width-start c = omega (arith, key_long c.args.octets.now c.requires)

pub unreachable-requires : goal.unreachable-requires
unreachable-requires c = gateway_in_front c.args.octets.now c.requires c.in-None.ensures

pub returns-clause-size : goal.returns-clause-size
returns-clause-size c = (gateway_front_is c.args.octets.now c.requires c.in-Some.width c.in-Some.ensures).size

pub returns-clause-wire : goal.returns-clause-wire
returns-clause-wire c = (gateway_front_is c.args.octets.now c.requires c.in-Some.width c.in-Some.ensures).is_wire

pub returns-clause-fits : goal.returns-clause-fits
returns-clause-fits c = (gateway_front_is c.args.octets.now c.requires c.in-Some.width c.in-Some.ensures).fits
