use Rattle.rdata_values.specs.Types.{type_rows}
use Rattle.rdata_values.proofs.types.type_name.Goals as goal

pub returns : goal.returns
unfolding type_rows
returns c = c.name_of.ensures
