use Rattle.std.proofs.Common.{◌≡◌, drop}
use Rattle.std.specs.Prelude.{find, ◌==◌}
use Rattle.rdata.specs.Types.{TypeShape, row_shapes}
use Rattle.rdata.proofs.types.find_row.Given as goal

-- the row is that of the rows left
abbrev pub invariant-loop-row : goal.invariant-loop-row
invariant-loop-row l = find (λ (s : TypeShape). s.rtype == l.fn.rtype) (row_shapes l.table) ≡ find (λ (s : TypeShape). s.rtype == l.fn.rtype) (row_shapes (drop l.row-index l.table))
