use Rattle.zone_reader.proofs.Learned.{default_learned}
use Rattle.zone_reader.proofs.state.State.set_default_ttl.Goals as goal

pub returns : goal.returns
returns c = default_learned c.args.self.now c.args.ttl
