use Rattle.std.proofs.Common.{length}
use Rattle.zone_dnssec.proofs.signatures.+count_labels.Given as goal

abbrev pub decreases-count_labels : goal.decreases-count_labels
decreases-count_labels l = length l.name.now
