use Rattle.zone_reader.proofs.GivenRows.{no_call_is_blank}
use Rattle.zone_reader.proofs.text_laws.no_call_is_blank.Goals as goal

pub returns : goal.returns
returns c = no_call_is_blank
