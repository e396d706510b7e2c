use Rattle.zone_reader.proofs.Learned.{nothing_learned, ttl_learned}
use Rattle.zone_reader.proofs.entry.set_last_ttl.Goals as goal

pub returns-in-Some-clause-learns : goal.returns-in-Some-clause-learns
returns-in-Some-clause-learns c = rw c.in-Some.is (ttl_learned c.args.state.now c.in-Some.ttl)

pub returns-in-None-clause-learns : goal.returns-in-None-clause-learns
returns-in-None-clause-learns c = rw c.in-None.is (nothing_learned c.args.state.now)
