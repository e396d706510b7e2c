use Rattle.std.proofs.Common.{length}
use Rattle.zone_dnssec.proofs.hashed.+faults_above.Given as goal

abbrev pub decreases-faults_above : goal.decreases-faults_above
decreases-faults_above g l = length l.name.now
