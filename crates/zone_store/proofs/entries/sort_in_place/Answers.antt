use Rattle.std.proofs.Common.{is_lt, rules}
use Rattle.std.proofs.lemmas.List.Sorted.{ranks_by}
use Rattle.std.proofs.lemmas.Fn.{always_returns_same}
use Rattle.zone_store.specs.Entries.{prefixed_order}
use Rattle.zone_store.proofs.EntryOrders.{prefixed_total}
use Rattle.zone_store.proofs.entries.sort_in_place.Goals as goal

pub returns-clause-sorted : goal.returns-clause-sorted
returns-clause-sorted g c =
    c.sort_unstable_by.ensures.sorted (λ x y. is_lt (prefixed_order c.args.octets.now x y)) (ranks_by (prefixed_total c.args.octets.now) (λ r. r)) (always_returns_same _ _ _ (λ a r k called. search rules))
