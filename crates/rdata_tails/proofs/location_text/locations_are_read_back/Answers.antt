use Rattle.rdata_tails.proofs.LocationLaws.{locations_are_read}
use Rattle.rdata_tails.proofs.location_text.locations_are_read_back.Goals as goal

pub returns : goal.returns
returns c = locations_are_read
