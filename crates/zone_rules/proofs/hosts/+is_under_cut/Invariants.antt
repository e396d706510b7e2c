use Rattle.std.proofs.Common.{length}
use Rattle.zone_rules.proofs.hosts.+is_under_cut.Given as goal

abbrev pub decreases-is_under_cut : goal.decreases-is_under_cut
decreases-is_under_cut g l = length l.name.now
