use Rattle.dns_zone.proofs.EntryDocuments.{one_first_empty, empty_refuses}
use Rattle.dns_zone.proofs.entry.laws.first_empties_are_unique.Goals as goal

pub returns-clause-one : goal.returns-clause-one
returns-clause-one c = one_first_empty

pub returns-clause-none : goal.returns-clause-none
returns-clause-none c = empty_refuses
