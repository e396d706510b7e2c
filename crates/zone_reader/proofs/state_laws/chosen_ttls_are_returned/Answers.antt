use Rattle.zone_reader.proofs.Learned.{ttl_told}
use Rattle.zone_reader.proofs.state_laws.chosen_ttls_are_returned.Goals as goal

pub returns : goal.returns
returns c = ttl_told
