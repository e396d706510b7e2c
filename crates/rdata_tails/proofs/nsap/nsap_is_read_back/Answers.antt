use Rattle.rdata_tails.proofs.NsapLaws.{nsap_is_read}
use Rattle.rdata_tails.proofs.nsap.nsap_is_read_back.Goals as goal

pub returns : goal.returns
returns c = nsap_is_read
