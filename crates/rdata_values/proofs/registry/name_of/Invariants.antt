use Rattle.std.proofs.Common.{◌≡◌, drop}
use Rattle.rdata_values.specs.Registry.{code_rows, row_name}
use Rattle.rdata_values.proofs.registry.name_of.Given as goal

abbrev pub invariant-loop-row : goal.invariant-loop-row
invariant-loop-row l = row_name (code_rows l.table) l.code ≡ row_name (code_rows (drop l.row-index l.table)) l.code
