use Rattle.rdata_tokens.proofs.GroupLemmas.{quartet_answer}
use Rattle.rdata_tokens.proofs.groups.starts_quartet.Goals as goal

pub returns : goal.returns
returns c = rw c.is_some.ensures (quartet_answer c.args.begun.now c.filled.result c.read_base64_group.result c.read_base64_group.new.octets c.requires.0 c.requires.1 c.filled.ensures c.read_base64_group.ensures)
