use Rattle.zonetext_lib.proofs.Forming.{nothing_formed, nothing_held}
use Rattle.zonetext_lib.proofs.formatter.Formatter.new.Goals as goal

pub invariant_of-result : goal.invariant_of-result
invariant_of-result g c = nothing_held c.new.result c.new.ensures.none

pub returns : goal.returns
returns g c = nothing_formed c.new.result c.first.result c.new.ensures.none c.first.ensures
