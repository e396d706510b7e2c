use Rattle.std.proofs.Common.{arith}
use Rattle.dns_symbol.proofs.Wide.{wide_low, few_none}
use Rattle.dns_symbol.proofs.utf8.first_character.Goals as goal

pub returns-then-text-lt192-clause-reads : goal.returns-then-text-lt192-clause-reads
returns-then-text-lt192-clause-reads c = wide_low c.args.text.now c.requires.wide (omega arith)

pub returns-then-text-needed-clause-reads : goal.returns-then-text-needed-clause-reads
returns-then-text-needed-clause-reads c = (few_none c.args.text.now c.requires.wide (omega arith), c.cut_error.ensures)
