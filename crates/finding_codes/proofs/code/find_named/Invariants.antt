use Rattle.std.proofs.Common.{◌≡◌, drop}
use Rattle.std.specs.Prelude.{map}
use Rattle.finding_codes.specs.Code.{code_named}
use Rattle.finding_codes.specs.Table.{row_seen}
use Rattle.finding_codes.proofs.code.find_named.Given as goal

-- the code is that of the rows left
abbrev pub invariant-loop-row : goal.invariant-loop-row
invariant-loop-row l = code_named (map row_seen l.rows) l.fn.name ≡ code_named (map row_seen (drop l.row-index l.rows)) l.fn.name
