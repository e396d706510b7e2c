use Rattle.rdata_values.proofs.Sets.{zeros_members, zeros_cover}
use Rattle.rdata_values.proofs.code_set.CodeSet.new.Goals as goal

pub invariant_of-result : goal.invariant_of-result
invariant_of-result c = zeros_cover _ c.zeros.ensures

pub returns : goal.returns
returns c = zeros_members _ c.zeros.ensures
