use Rattle.dns_wire.proofs.Splitting.{splits_same}
use Rattle.dns_wire.proofs.laws.octets_split_one_way.Goals as goal

pub returns-clause-some : goal.returns-clause-some
returns-clause-some c = (c.rest_of-rest.ensures.0, c.rest_of-rest.ensures.1, c.rest_of-rest.ensures.2)

pub returns-clause-one : goal.returns-clause-one
returns-clause-one c = splits_same c.args.octets.now
