use Rattle.std.proofs.Common.{[], arith}
use Rattle.zone_format.proofs.place.position_after.Goals as goal

pub returns : goal.returns
returns c = (omega (arith, c.advance.ensures.line, c.line_start.ensures.line), c.advance.ensures.column [] c.line_start.ensures.column)
