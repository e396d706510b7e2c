use Rattle.dns_lexer.proofs.Lanes.{run_of_lanes}
use Rattle.dns_lexer.proofs.runs.run_in.Goals as goal

pub returns : goal.returns
returns c = run_of_lanes c.args.class c.args.octets.now c.args.at _ _ c.requires c.type_inv.octets c.first_set.ensures c.ends.ensures
