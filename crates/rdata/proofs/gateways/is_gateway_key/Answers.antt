use Rattle.std.proofs.Common.{sym, true≢false}
use Rattle.std.proofs.lemmas.List.{get_or_default}
use Rattle.rdata.proofs.GatewayLaws.{key_in, no_key_in}
use Rattle.rdata.proofs.gateways.is_gateway_key.Goals as goal

pub returns-in-Some : goal.returns-in-Some
returns-in-Some c =
    let octets = c.args.octets.now in
    let key = key_in octets c.if-octets-lt2.false c.in-Some.width (λ k d h. rw (get_or_default octets k d 0 h) (c.type_inv.octets k).fits) c.in-Some.ensures in
    (λ yes. key.0 (c.may_have.ensures.0 yes), λ h. c.may_have.ensures.1 (key.1 h))

pub returns-in-None : goal.returns-in-None
returns-in-None c = (λ no. absurd (true≢false (sym no)), λ h. absurd (no_key_in c.args.octets.now c.if-octets-lt2.false c.in-None.ensures h))
