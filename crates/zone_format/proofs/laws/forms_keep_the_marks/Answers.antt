use Rattle.zone_format.proofs.Again.{form_has_marks}
use Rattle.zone_format.proofs.laws.forms_keep_the_marks.Goals as goal

pub returns : goal.returns
returns c = form_has_marks
