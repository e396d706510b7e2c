use Rattle.server_config.proofs.StarSteps.{not_here}
use Rattle.server_config.proofs.path_pattern.ends_here.Goals as goal

pub returns-else-at-name-clause-none : goal.returns-else-at-name-clause-none
returns-else-at-name-clause-none c is = not_here c.args.pattern.now c.args.name.now (c.in-Some.index, c.in-Some.at) c.in-Some.ensures.fits c.if-index-pattern.false c.if-at-name.false
