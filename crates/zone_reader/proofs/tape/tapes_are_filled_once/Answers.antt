use Rattle.zone_reader.proofs.TapeOnce.{filled_once}
use Rattle.zone_reader.proofs.tape.tapes_are_filled_once.Goals as goal

pub returns : goal.returns
returns c = filled_once
