use Rattle.dns_symbol.proofs.Escapes.{escape_begins, no_symbol}
use Rattle.dns_symbol.proofs.index.first_escaped.Goals as goal

pub returns-in-Ok-clause-reads : goal.returns-in-Ok-clause-reads
returns-in-Ok-clause-reads c =
    let read = c.in-Ok.ensures.reads in
    rw (c.symbol.ensures, c.len.ensures) (escape_begins c.args.text.now _ _ read.0 read.1)

pub returns-in-Err-clause-reads : goal.returns-in-Err-clause-reads
returns-in-Err-clause-reads c = rw c.octets_error.ensures (no_symbol c.args.text.now c.requires.escape c.in-Err.error c.requires.some c.in-Err.ensures.reads)
