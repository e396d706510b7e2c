use Rattle.std.proofs.Common.{length}
use Rattle.zone_rules.proofs.tlsa.+name_after_transport.Given as goal

abbrev pub decreases-name_after_transport : goal.decreases-name_after_transport
decreases-name_after_transport l = length l.name.now
