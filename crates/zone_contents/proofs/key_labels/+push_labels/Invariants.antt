use Rattle.std.proofs.Common.{length}
use Rattle.zone_contents.proofs.key_labels.+push_labels.Given as goal

abbrev pub decreases-push_labels : goal.decreases-push_labels
decreases-push_labels l = length l.key.now
