use Rattle.dns_lexer.proofs.OctetsOnce.{are_octets}
use Rattle.zone_stream.proofs.blocks.as_octets.Goals as goal

pub returns-clause-octets : goal.returns-clause-octets
returns-clause-octets c = are_octets c.args.octets.now (λ k. (c.type_inv.octets k).fits)
