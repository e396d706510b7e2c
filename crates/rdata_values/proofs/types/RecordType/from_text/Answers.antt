use Rattle.rdata_values.specs.Types.{type_rows}
use Rattle.rdata_values.proofs.types.RecordType.from_text.Goals as goal

pub returns-in-Ok : goal.returns-in-Ok
unfolding type_rows
returns-in-Ok c = c.in-Ok.ensures

pub returns-in-Err : goal.returns-in-Err
unfolding type_rows
returns-in-Err c = (c.in-Err.ensures.0, λ t h. c.in-Err.ensures.1 t h)
