use Rattle.findings.proofs.PlacesAlone.{all_are_by_place}
use Rattle.findings.proofs.laws.all_are_by_place.Goals as goal

pub returns : goal.returns
returns c = all_are_by_place
