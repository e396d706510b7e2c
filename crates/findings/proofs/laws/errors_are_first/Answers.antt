use Rattle.findings.proofs.FindingLawSteps.{errors_are_first}
use Rattle.findings.proofs.laws.errors_are_first.Goals as goal

pub returns : goal.returns
returns c = errors_are_first
