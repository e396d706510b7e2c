use Rattle.std.proofs.Common.{rules, arith, drop, sym, subst, ◌≡◌, ◌++◌}
use Rattle.rdata_tails.proofs.GatewayLaws.{in_front}
use Rattle.rdata_tails.proofs.gateway.first_ipv4.Goals as goal

pub returns : goal.returns
returns c = (
  c.at_octets4.ensures.valid,
  c.at_octets4.ensures.number,
  drop 4 c.args.octets.now,
  subst (λ front. c.args.octets.now ≡ front ++ drop 4 c.args.octets.now) (sym c.at_octets4.ensures.octets)
      (in_front c.args.octets.now _ c.padded4-front.result 4 (omega arith) (search rules) (search rules) c.padded4-front.ensures.begins),
)
