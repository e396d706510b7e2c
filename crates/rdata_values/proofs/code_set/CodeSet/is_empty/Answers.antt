use Rattle.rdata_values.proofs.Sets.{emptiness}
use Rattle.rdata_values.proofs.code_set.CodeSet.is_empty.Goals as goal

pub returns : goal.returns
returns c = emptiness c.self.inside.octets c.self.inside.windows c.args.self.now c.self.invariant c.self.view_is
