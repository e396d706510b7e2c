use Rattle.std.proofs.Common.{refl}
use Rattle.finding_codes.specs.Table.{later_rows}
use Rattle.finding_codes.proofs.table.later_rows.Goals as goal

pub returns : goal.returns
unfolding later_rows
returns c = refl
