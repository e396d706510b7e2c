use Rattle.std.proofs.Common.{length}
use Rattle.zone_record.proofs.order_key.+put_key_labels.Given as goal

abbrev pub decreases-put_key_labels : goal.decreases-put_key_labels
decreases-put_key_labels l = length l.octets.now
