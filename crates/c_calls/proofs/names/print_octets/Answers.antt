use Rattle.std.proofs.Common.{refl, Ok, Err}
use Rattle.c_calls.proofs.names.print_octets.Goals as goal

pub returns-in-Ok : goal.returns-in-Ok
returns-in-Ok c = (Ok c.in-Ok.name, c.in-Ok.ensures, rw c.iter_labels.ensures.value at c.report_text.ensures)

pub returns-in-Err : goal.returns-in-Err
returns-in-Err c = (Err c.in-Err.error, c.in-Err.ensures, (rw c.refusal_of_octets-refusal.ensures at c.refuse.ensures, refl))
