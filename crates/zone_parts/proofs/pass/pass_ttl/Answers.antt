use Rattle.zone_reader.proofs.Learned.{nothing_learned, ttl_learned}
use Rattle.zone_parts.proofs.pass.pass_ttl.Goals as goal

pub returns-in-Some : goal.returns-in-Some
returns-in-Some c = rw c.in-Some.is (ttl_learned c.args.state.now c.in-Some.ttl)

pub returns-in-None : goal.returns-in-None
returns-in-None c = rw c.in-None.is (nothing_learned c.args.state.now)
