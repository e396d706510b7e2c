use Rattle.std.proofs.Common.{length}
use Rattle.zone_record.proofs.key_names.+split_label.Given as goal

abbrev pub decreases-split_label : goal.decreases-split_label
decreases-split_label l = length l.key.now
