use Rattle.std.specs.List.Sorted.{IsSorted}
use Rattle.std.proofs.Common.{List, subst}
use Rattle.zone_store.specs.Stored.{AddedRecord, stored_order}
use Rattle.zone_store.proofs.sorted.SortedStore.len.Goals as goal

pub returns-clause-sorted : goal.returns-clause-sorted
returns-clause-sorted g c = subst (λ (rs : List AddedRecord). IsSorted stored_order rs) c.self.view_is c.self.invariant.sorted
