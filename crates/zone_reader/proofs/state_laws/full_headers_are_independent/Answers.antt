use Rattle.zone_reader.proofs.PastStates.{owners_alone, ttls_alone}
use Rattle.zone_reader.proofs.state_laws.full_headers_are_independent.Goals as goal

pub returns : goal.returns
returns c = record { owner = owners_alone; ttl = ttls_alone }
