use Rattle.std.proofs.Common.{length}
use Rattle.zone_record.proofs.keys.+push_key_labels.Given as goal

abbrev pub decreases-push_key_labels : goal.decreases-push_key_labels
decreases-push_key_labels g l = length l.octets.now
