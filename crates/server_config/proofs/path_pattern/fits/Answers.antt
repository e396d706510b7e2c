use Rattle.std.proofs.Common.{sym}
use Rattle.server_config.proofs.StarSteps.{name_left}
use Rattle.server_config.proofs.path_pattern.fits.Goals as goal

pub returns : goal.returns
returns c = let l = c.loop-index in sym (name_left c.args.pattern.now c.args.name.now l.index l.at l.invariant c.loop-index-test.false)
