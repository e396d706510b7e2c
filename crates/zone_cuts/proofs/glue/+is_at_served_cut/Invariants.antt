use Rattle.std.proofs.Common.{length}
use Rattle.zone_cuts.proofs.glue.+is_at_served_cut.Given as goal

abbrev pub decreases-is_at_served_cut : goal.decreases-is_at_served_cut
decreases-is_at_served_cut g l = length l.name.now
