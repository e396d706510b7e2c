use Rattle.std.proofs.Common.{◌≡◌, drop}
use Rattle.rdata_svcb.specs.Keys.{rows_of, named_row}
use Rattle.rdata_svcb.proofs.keys.find_key.Given as goal

abbrev pub invariant-loop-row : goal.invariant-loop-row
invariant-loop-row l = named_row (rows_of l.table) l.text ≡ named_row (rows_of (drop l.row-index l.table)) l.text
