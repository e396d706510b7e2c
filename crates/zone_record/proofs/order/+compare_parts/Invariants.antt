use Rattle.std.proofs.Common.{length}
use Rattle.zone_record.proofs.order.+compare_parts.Given as goal

abbrev pub decreases-compare_parts : goal.decreases-compare_parts
decreases-compare_parts l = length l.fields.now
