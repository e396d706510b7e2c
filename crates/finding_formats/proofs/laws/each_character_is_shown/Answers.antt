use Rattle.finding_formats.proofs.Showing.{each_shown}
use Rattle.finding_formats.proofs.laws.each_character_is_shown.Goals as goal

pub returns : goal.returns
returns c = each_shown
