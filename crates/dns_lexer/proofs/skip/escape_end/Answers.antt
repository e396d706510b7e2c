use Rattle.dns_lexer.proofs.Skips.{escape_skipped}
use Rattle.dns_lexer.proofs.skip.escape_end.Goals as goal

pub returns-in-Ok : goal.returns-in-Ok
returns-in-Ok c = rw c.len.ensures (escape_skipped c.args.octets.now c.args.at c.in-Ok.escape c.requires c.in-Ok.ensures.reads)
