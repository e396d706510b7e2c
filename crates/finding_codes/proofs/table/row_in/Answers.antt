use Rattle.std.proofs.Common.{refl}
use Rattle.finding_codes.proofs.Tables.{indexed}
use Rattle.finding_codes.proofs.table.row_in.Goals as goal

pub returns : goal.returns
returns c = indexed c.args.rows.now _ c.args.at refl
