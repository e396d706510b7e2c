use Rattle.std.proofs.Common.{length}
use Rattle.zone_rules.proofs.present.+dname_above.Given as goal

abbrev pub decreases-dname_above : goal.decreases-dname_above
decreases-dname_above g l = length l.name.now
