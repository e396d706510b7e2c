use Rattle.std.proofs.Common.{arith}
use Rattle.dns_charstr.proofs.OctetEscapes.{spells_plain}
use Rattle.dns_charstr.proofs.octet_text.first_octet.Goals as goal

pub returns-clause-reads : goal.returns-clause-reads
returns-clause-reads c = (spells_plain c.args.text.now c.requires c.if-text-eq92.false, omega (arith, c.requires))
