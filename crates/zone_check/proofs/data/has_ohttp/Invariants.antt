use Rattle.std.proofs.Common.{◌≡◌, length}
use Rattle.zone_check.specs.Data.{has_ohttp}
use Rattle.zone_check.proofs.data.has_ohttp.Given as goal

abbrev pub invariant-loop-most : goal.invariant-loop-most
invariant-loop-most l = has_ohttp l.most l.rest ≡ has_ohttp (length l.fn.parameters) l.fn.parameters

abbrev pub decreases-loop-most : goal.decreases-loop-most
decreases-loop-most l = l.most
