use Rattle.zonetext_lib.proofs.Together.{none_compared}
use Rattle.zonetext_lib.proofs.comparer.Comparer.new.Goals as goal

pub returns : goal.returns
returns g c = none_compared c.new.result c.new-2.result c.new.ensures.none c.new-2.ensures.none
