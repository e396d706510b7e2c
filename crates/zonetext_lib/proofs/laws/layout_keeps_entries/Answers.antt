use Rattle.zonetext_lib.proofs.Layouts.{keeps_entries}
use Rattle.zonetext_lib.proofs.laws.layout_keeps_entries.Goals as goal

pub returns : goal.returns
returns c = keeps_entries
