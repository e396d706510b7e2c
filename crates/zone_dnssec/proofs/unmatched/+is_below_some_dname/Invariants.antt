use Rattle.std.proofs.Common.{length}
use Rattle.zone_dnssec.proofs.unmatched.+is_below_some_dname.Given as goal

abbrev pub decreases-is_below_some_dname : goal.decreases-is_below_some_dname
decreases-is_below_some_dname g l = length l.name.now
