use Rattle.finding_formats.proofs.Texts.{no_controls}
use Rattle.finding_formats.proofs.laws.texts_have_no_controls.Goals as goal

pub returns : goal.returns
returns c = no_controls
