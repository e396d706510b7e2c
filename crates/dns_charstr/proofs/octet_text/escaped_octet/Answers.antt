use Rattle.dns_charstr.proofs.OctetEscapes.{spells_escape, spells_no_escape}
use Rattle.dns_charstr.proofs.octet_text.escaped_octet.Goals as goal

pub returns-in-Ok-clause-reads : goal.returns-in-Ok-clause-reads
returns-in-Ok-clause-reads c = rw c.len.ensures (spells_escape c.args.text.now c.in-Ok.escape c.in-Ok.ensures.reads, c.in-Ok.ensures.goes)

pub returns-in-Err-clause-reads : goal.returns-in-Err-clause-reads
returns-in-Err-clause-reads c = spells_no_escape c.args.text.now c.in-Err.error c.requires.some c.requires.escape c.in-Err.ensures.reads
