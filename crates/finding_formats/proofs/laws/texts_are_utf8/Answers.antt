use Rattle.finding_formats.proofs.Texts.{is_text}
use Rattle.finding_formats.proofs.laws.texts_are_utf8.Goals as goal

pub returns : goal.returns
returns c = is_text
