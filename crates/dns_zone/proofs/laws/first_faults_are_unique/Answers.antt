use Rattle.std.proofs.Common.{[]}
use Rattle.dns_zone.proofs.Scanned.{one_first_fault}
use Rattle.dns_zone.proofs.laws.first_faults_are_unique.Goals as goal

pub returns : goal.returns
returns c xs e f p q = one_first_fault [] xs e f p q
