use Rattle.zone_reader.proofs.PartsStay.{ended_entries_stay}
use Rattle.zone_reader.proofs.text_laws.ended_entries_stay.Goals as goal

pub returns : goal.returns
returns c = ended_entries_stay
