use Rattle.std.proofs.Common.{Ok, Err, sym}
use Rattle.c_calls.proofs.generate.generate_entry.Goals as goal

pub returns-in-Err : goal.returns-in-Err
returns-in-Err c = (Err c.in-Err.error, c.in-Err.ensures, c.report_error.ensures c.args.number.now)

pub returns-in-Err-parse : goal.returns-in-Err-parse
returns-in-Err-parse c =
    (Ok c.in-Ok.tokens, c.in-Ok.ensures, rw (sym c.in-Err-parse.ensures) (c.report_error-in-Err-parse.ensures c.args.number.now))
