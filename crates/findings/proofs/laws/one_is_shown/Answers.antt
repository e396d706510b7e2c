use Rattle.findings.proofs.FindingLawSteps.{one_is_shown}
use Rattle.findings.proofs.laws.one_is_shown.Goals as goal

pub returns : goal.returns
returns c = one_is_shown
