use Rattle.std.proofs.Common.{length}
use Rattle.zone_rules.proofs.host_names.+is_host.Given as goal

abbrev pub decreases-is_host : goal.decreases-is_host
decreases-is_host l = length l.name.now
