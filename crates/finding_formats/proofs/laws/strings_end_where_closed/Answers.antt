use Rattle.finding_formats.proofs.Texts.{ends_where_closed}
use Rattle.finding_formats.proofs.laws.strings_end_where_closed.Goals as goal

pub returns : goal.returns
returns c = ends_where_closed
