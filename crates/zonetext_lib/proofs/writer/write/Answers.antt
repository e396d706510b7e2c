use Rattle.dns_lexer.proofs.OctetsOnce.{are_octets}
use Rattle.zonetext_lib.proofs.writer.write.Goals as goal

pub returns-in-Rows-clause-octets : goal.returns-in-Rows-clause-octets
returns-in-Rows-clause-octets g c = are_octets c.args.octets.now (λ k. (c.type_inv.octets k).fits)

pub returns-in-Lines-clause-octets : goal.returns-in-Lines-clause-octets
returns-in-Lines-clause-octets g c = are_octets c.args.octets.now (λ k. (c.type_inv.octets k).fits)
