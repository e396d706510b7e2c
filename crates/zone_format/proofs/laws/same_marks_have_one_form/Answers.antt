use Rattle.zone_format.proofs.Again.{same_form}
use Rattle.zone_format.proofs.laws.same_marks_have_one_form.Goals as goal

pub returns : goal.returns
returns c = same_form
