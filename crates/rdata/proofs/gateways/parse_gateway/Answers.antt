use Rattle.std.specs.Option.{option_copied}
use Rattle.rdata.proofs.GatewayLaws.{name_taken, address_taken}
use Rattle.rdata.proofs.gateways.parse_gateway.Goals as goal

pub returns-then-number-eq-NAME-clause-takes : goal.returns-then-number-eq-NAME-clause-takes
returns-then-number-eq-NAME-clause-takes g c = name_taken (option_copied c.args.origin) c.args.number g.B.OctetsBuilder.room _ _ _ c.parse_one.result _ _ c.if-number-eq-NAME.true c.parse_one.ensures.takes

pub returns-else-number-eq-NAME-clause-takes : goal.returns-else-number-eq-NAME-clause-takes
returns-else-number-eq-NAME-clause-takes g c = address_taken (option_copied c.args.origin) c.args.number g.B.OctetsBuilder.room _ _ _ c.parse_address.result _ _ c.if-number-eq-NAME.false c.parse_address.ensures.takes
