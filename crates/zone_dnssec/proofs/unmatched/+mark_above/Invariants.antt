use Rattle.std.proofs.Common.{length}
use Rattle.zone_dnssec.proofs.unmatched.+mark_above.Given as goal

abbrev pub decreases-mark_above : goal.decreases-mark_above
decreases-mark_above g l = length l.name.now
