use Rattle.dns_lexer.specs.EntryTokens.{token_seen}
use Rattle.rdata.proofs.GatewayLaws.{type_above}
use Rattle.rdata.proofs.gateways.gateway_type.Goals as goal

pub returns-in-Ok-2 : goal.returns-in-Ok-2
returns-in-Ok-2 c = type_above (token_seen c.args.token.now) c.in-Ok.number c.if-token.false c.in-Ok.ensures c.if-number-le-NAME.false
