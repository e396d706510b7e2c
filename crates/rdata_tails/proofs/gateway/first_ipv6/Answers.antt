use Rattle.std.proofs.Common.{rules, arith, drop, sym, subst, ◌≡◌, ◌++◌}
use Rattle.rdata_tails.proofs.GatewayLaws.{in_front, too_few16}
use Rattle.rdata_tails.proofs.gateway.first_ipv6.Goals as goal

pub returns-then-octets-lt16 : goal.returns-then-octets-lt16
returns-then-octets-lt16 c = too_few16 c.args.octets.now c.if-octets-lt16.true

pub returns : goal.returns
returns c = (
  c.at_octets16.ensures.valid,
  c.at_octets16.ensures.number,
  drop 16 c.args.octets.now,
  subst (λ front. c.args.octets.now ≡ front ++ drop 16 c.args.octets.now) (sym c.at_octets16.ensures.octets)
      (in_front c.args.octets.now _ c.padded16-front.result 16 (omega arith) (search rules) (search rules) c.padded16-front.ensures.begins),
)
