use Rattle.std.proofs.Common.{length}
use Rattle.zone_record.proofs.first_field.+after_labels.Given as goal

abbrev pub decreases-after_labels : goal.decreases-after_labels
decreases-after_labels l = length l.octets.now
