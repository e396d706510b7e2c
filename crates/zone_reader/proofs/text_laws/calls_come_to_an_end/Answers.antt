use Rattle.zone_reader.proofs.CallsEnd.{calls_end}
use Rattle.zone_reader.proofs.text_laws.calls_come_to_an_end.Goals as goal

pub returns : goal.returns
returns c = calls_end
