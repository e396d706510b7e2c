use Rattle.std.proofs.Common.{length, ◌-◌}
use Rattle.zone_rules.proofs.sorted.count_up_to.Given as goal

abbrev pub decreases-gallop : goal.decreases-gallop
decreases-gallop g l = length l.records - l.index
