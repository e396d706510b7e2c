use Rattle.findings.proofs.PlacesAlone.{numbers_rise}
use Rattle.findings.proofs.laws.numbers_rise.Goals as goal

pub returns : goal.returns
returns c = numbers_rise
