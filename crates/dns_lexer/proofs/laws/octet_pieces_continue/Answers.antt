use Rattle.dns_lexer.proofs.OctetJoins.{octet_pieces_continue}
use Rattle.dns_lexer.proofs.laws.octet_pieces_continue.Goals as goal

pub returns : goal.returns
returns c = λ octets found more at b fits. octet_pieces_continue octets at fits found more b
