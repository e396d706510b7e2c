use Rattle.zone_store.proofs.CanonicalOrders.{canonical_order}
use Rattle.zone_store.proofs.store_laws.records_are_in_canonical_order.Goals as goal

pub returns : goal.returns
returns c = canonical_order
