use Rattle.std.proofs.Common.{length}
use Rattle.zone_rules.proofs.present.+is_under_refused_dname.Given as goal

abbrev pub decreases-is_under_refused_dname : goal.decreases-is_under_refused_dname
decreases-is_under_refused_dname l = length l.name.now
