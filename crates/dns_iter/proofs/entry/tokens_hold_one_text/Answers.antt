use Rattle.dns_iter.proofs.Holding.{contents_some, contents_one, contents_symbols}
use Rattle.dns_iter.proofs.entry.tokens_hold_one_text.Goals as goal

pub returns-clause-some : goal.returns-clause-some
returns-clause-some c = contents_some

pub returns-clause-one : goal.returns-clause-one
returns-clause-one c = contents_one

pub returns-clause-symbols : goal.returns-clause-symbols
returns-clause-symbols c = contents_symbols
