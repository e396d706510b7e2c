use Rattle.std.proofs.Common.{refl}
use Rattle.finding_codes.specs.Table.{way_rows}
use Rattle.finding_codes.proofs.table.ways.Goals as goal

pub returns : goal.returns
unfolding way_rows
returns c = refl
