use Rattle.zone_reader.proofs.PastStates.{restored}
use Rattle.zone_reader.proofs.state.State.restore.Goals as goal

pub returns-clause-past : goal.returns-clause-past
returns-clause-past c = λ start past included h k. restored start past included c.args.mark c.args.self.now h k
