use Rattle.rdata.proofs.ItemLaws.{any_found}
use Rattle.rdata.proofs.prefixes.any_width.Goals as goal

pub returns-in-None : goal.returns-in-None
returns-in-None c = any_found c.args.octets.now c.other_width.result c.in-None.ensures c.other_width.ensures
