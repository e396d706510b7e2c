use Rattle.finding_formats.proofs.Texts.{no_end}
use Rattle.finding_formats.proofs.laws.properties_have_no_end.Goals as goal

pub returns : goal.returns
returns c = no_end
