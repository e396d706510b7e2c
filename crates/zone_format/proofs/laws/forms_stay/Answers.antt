use Rattle.zone_format.proofs.Again.{form_again}
use Rattle.zone_format.proofs.laws.forms_stay.Goals as goal

pub returns : goal.returns
returns c = form_again
