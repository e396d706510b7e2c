use Rattle.std.proofs.Common.{sym, ◌∙◌}
use Rattle.rdata.specs.Types.{type_shapes}
use Rattle.rdata.proofs.types.type_row.Goals as goal

pub returns : goal.returns
unfolding type_shapes
returns c = c.find_row.ensures

pub returns-in-Some : goal.returns-in-Some
unfolding type_shapes
returns-in-Some c = c.row_at.ensures ∙ sym c.in-Some.ensures
