use Rattle.zone_set.proofs.Merging.{merged_is_canonical, merged_runs}
use Rattle.zone_set.proofs.laws.merges_are_canonical.Goals as goal

pub returns-clause-canonical : goal.returns-clause-canonical
returns-clause-canonical g c = λ parts records h. merged_runs parts h.0 records h.1 h.2

pub returns-clause-one : goal.returns-clause-one
returns-clause-one g c = λ parts records canonical h of_all. merged_is_canonical parts h.0 records canonical h.1 h.2 of_all
