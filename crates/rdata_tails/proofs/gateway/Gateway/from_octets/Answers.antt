use Rattle.std.proofs.Common.{sym, subst}
use Rattle.rdata_tails.specs.Gateways.{FindsGateway}
use Rattle.rdata_tails.proofs.gateway.Gateway.from_octets.Goals as goal

pub returns-in-1 : goal.returns-in-1
returns-in-1 c = subst (λ number. FindsGateway number c.args.octets.now c.first_ipv4.result) (sym c.in-1.is) c.first_ipv4.ensures

pub returns-in-2 : goal.returns-in-2
returns-in-2 c = subst (λ number. FindsGateway number c.args.octets.now c.first_ipv6.result) (sym c.in-2.is) c.first_ipv6.ensures
