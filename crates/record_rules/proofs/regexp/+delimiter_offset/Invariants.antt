use Rattle.std.proofs.Common.{length}
use Rattle.record_rules.proofs.regexp.+delimiter_offset.Given as goal

abbrev pub decreases-delimiter_offset : goal.decreases-delimiter_offset
decreases-delimiter_offset l = length l.octets.now
