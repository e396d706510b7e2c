use Rattle.rdata_tails.proofs.GatewayLaws.{gateways_are_read}
use Rattle.rdata_tails.proofs.gateway.gateways_are_read_back.Goals as goal

pub returns : goal.returns
returns c = gateways_are_read
