use Rattle.rdata_tails.proofs.LocationLaws.{are_spelled}
use Rattle.rdata_tails.proofs.location_wire.is_location.Goals as goal

pub returns-clause-spelled : goal.returns-clause-spelled
returns-clause-spelled c = are_spelled c.args.octets.now c.location_of.result c.is_some.result c.is_some.ensures c.location_of.ensures
