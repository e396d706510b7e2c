use Rattle.std.proofs.Common.{◌≡◌, take}
use Rattle.rdata_values.specs.Registry.{code_rows}
use Rattle.finding_texts.specs.Similar.{suggested_types}
use Rattle.finding_texts.proofs.similar.suggested_types.Given as goal

abbrev pub invariant-loop-row : goal.invariant-loop-row
invariant-loop-row l = l.types.items ≡ suggested_types (code_rows (take l.row-index l.rows)) l.word
