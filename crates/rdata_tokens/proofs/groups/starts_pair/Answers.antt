use Rattle.rdata_tokens.proofs.GroupLemmas.{pair_answer}
use Rattle.rdata_tokens.proofs.groups.starts_pair.Goals as goal

pub returns : goal.returns
returns c = rw c.is_some.ensures (pair_answer c.args.digit c.read_hex.result c.read_hex.new.octets c.read_hex.ensures)
