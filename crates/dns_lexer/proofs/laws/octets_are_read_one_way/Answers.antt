use Rattle.dns_lexer.proofs.OctetsOnce.{given_once}
use Rattle.dns_lexer.proofs.laws.octets_are_read_one_way.Goals as goal

pub returns : goal.returns
returns c = given_once
