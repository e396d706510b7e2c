use Rattle.c_calls.proofs.Row.{entries_in_a_row}
use Rattle.c_calls.proofs.laws.entries_in_a_row.Goals as goal

pub returns : goal.returns
returns c = entries_in_a_row
