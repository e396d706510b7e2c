use Rattle.dns_lexer.proofs.FaultJoins.{fault_joined}
use Rattle.dns_lexer.proofs.laws.faults_join.Goals as goal

pub returns : goal.returns
returns c = fault_joined
