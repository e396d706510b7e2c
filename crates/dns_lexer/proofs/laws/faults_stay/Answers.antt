use Rattle.dns_lexer.proofs.Blocks.{faults_stay}
use Rattle.dns_lexer.proofs.laws.faults_stay.Goals as goal

pub returns : goal.returns
returns c = faults_stay
