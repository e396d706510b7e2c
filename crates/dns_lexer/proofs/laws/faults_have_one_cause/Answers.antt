use Rattle.dns_lexer.proofs.OneCause.{one_fault}
use Rattle.dns_lexer.proofs.laws.faults_have_one_cause.Goals as goal

pub returns : goal.returns
returns c = one_fault
