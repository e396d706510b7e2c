use Rattle.zonetext_lib.proofs.Once.{entries_once}
use Rattle.zonetext_lib.proofs.laws.entries_come_one_way.Goals as goal

pub returns : goal.returns
returns c = entries_once
