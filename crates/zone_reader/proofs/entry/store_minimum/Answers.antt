use Rattle.zone_reader.proofs.Learned.{default_learned, nothing_learned}
use Rattle.zone_reader.proofs.entry.store_minimum.Goals as goal

pub returns-in-Minimum-clause-learns : goal.returns-in-Minimum-clause-learns
returns-in-Minimum-clause-learns c = rw c.in-Minimum.is (default_learned c.args.state.now c.in-Minimum.seconds)

pub returns-in-Explicit-clause-learns : goal.returns-in-Explicit-clause-learns
returns-in-Explicit-clause-learns c = rw c.in-Explicit.is (nothing_learned c.args.state.now)

pub returns-in-Default-clause-learns : goal.returns-in-Default-clause-learns
returns-in-Default-clause-learns c = rw c.in-Default.is (nothing_learned c.args.state.now)

pub returns-in-Last-clause-learns : goal.returns-in-Last-clause-learns
returns-in-Last-clause-learns c = rw c.in-Last.is (nothing_learned c.args.state.now)
