use Rattle.rdata_tails.proofs.PrefixLaws.{prefixes_are_read}
use Rattle.rdata_tails.proofs.apl.prefixes_are_read_back.Goals as goal

pub returns : goal.returns
returns c = prefixes_are_read
