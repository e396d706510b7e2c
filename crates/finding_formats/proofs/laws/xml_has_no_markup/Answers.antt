use Rattle.finding_formats.proofs.Texts.{no_markup}
use Rattle.finding_formats.proofs.laws.xml_has_no_markup.Goals as goal

pub returns : goal.returns
returns c = no_markup
