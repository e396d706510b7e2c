use Rattle.rdata_tokens.proofs.FormLaws.{octets_spelled}
use Rattle.rdata_tokens.proofs.laws.octets_are_read_back.Goals as goal

pub returns : goal.returns
returns c = octets_spelled
