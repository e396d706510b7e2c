use Rattle.zone_reader.proofs.SplitTexts.{read_entries_are_split}
use Rattle.zone_reader.proofs.text_laws.read_entries_are_split.Goals as goal

pub returns : goal.returns
returns c = read_entries_are_split
