use Rattle.rdata.proofs.wire.is_rest.Goals as goal

pub returns-in-GatewayKey : goal.returns-in-GatewayKey
returns-in-GatewayKey c = rw c.in-GatewayKey.is c.is_gateway_key.ensures

pub returns-in-HostIdentity : goal.returns-in-HostIdentity
returns-in-HostIdentity c = rw c.in-HostIdentity.is c.is_host_identity.ensures
