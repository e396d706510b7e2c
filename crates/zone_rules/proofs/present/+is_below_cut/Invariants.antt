use Rattle.std.proofs.Common.{length}
use Rattle.zone_rules.proofs.present.+is_below_cut.Given as goal

abbrev pub decreases-is_below_cut : goal.decreases-is_below_cut
decreases-is_below_cut g l = length l.name.now
