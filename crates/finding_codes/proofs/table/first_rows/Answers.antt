use Rattle.std.proofs.Common.{refl}
use Rattle.finding_codes.specs.Table.{first_rows}
use Rattle.finding_codes.proofs.table.first_rows.Goals as goal

pub returns : goal.returns
unfolding first_rows
returns c = refl
