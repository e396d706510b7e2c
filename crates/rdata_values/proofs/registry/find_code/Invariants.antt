use Rattle.std.proofs.Common.{◌≡◌, drop}
use Rattle.rdata_values.specs.Registry.{code_rows, row_code}
use Rattle.rdata_values.proofs.registry.find_code.Given as goal

abbrev pub invariant-loop-row : goal.invariant-loop-row
invariant-loop-row l = row_code (code_rows l.table) l.text ≡ row_code (code_rows (drop l.row-index l.table)) l.text
