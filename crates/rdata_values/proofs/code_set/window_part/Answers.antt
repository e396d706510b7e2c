use Rattle.std.proofs.Common.{arith}
use Rattle.rdata_values.proofs.Sets.{slice_is_window}
use Rattle.rdata_values.proofs.code_set.window_part.Goals as goal

pub returns : goal.returns
returns c = slice_is_window c.args.octets.now c.args.window _ _ (omega arith) (omega arith) c.requires.all c.requires.window (λ k. omega (arith, c.type_inv.octets k))
