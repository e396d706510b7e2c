use Rattle.std.proofs.Common.{length}
use Rattle.zone_contents.proofs.zone_key.+write_within.Given as goal

abbrev pub decreases-write_within : goal.decreases-write_within
decreases-write_within l = length l.octets.now
