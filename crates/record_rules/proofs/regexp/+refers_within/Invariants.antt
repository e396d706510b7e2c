use Rattle.std.proofs.Common.{length}
use Rattle.record_rules.proofs.regexp.+refers_within.Given as goal

abbrev pub decreases-refers_within : goal.decreases-refers_within
decreases-refers_within l = length l.octets.now
