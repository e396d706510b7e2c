use Rattle.dns_lexer.proofs.SettledOnce.{faults_once}
use Rattle.dns_lexer.proofs.laws.faults_come_one_way.Goals as goal

pub returns : goal.returns
returns c = faults_once
