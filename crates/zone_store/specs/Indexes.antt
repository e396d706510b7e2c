-- The record of an entry at an index, and the order of two.
use Rattle.std.specs.Prelude.{ℕ, List}
use Rattle.std.specs.declared.cmp.Ordering.{Ordering}
use Rattle.zone_store.specs.Stored.{AddedRecord, key_order_at, record_at, stored_order}
use Rattle.zone_store.specs.Stores.{stored_records}
use Rattle.zone_store.specs.declared.entries.Entry.{Entry}

abbrev pub stored_at : List ℕ → List Entry → ℕ → AddedRecord
stored_at octets entries index = record_at (stored_records octets entries) index

abbrev pub key_order_by_index : List ℕ → List Entry → ℕ → ℕ → Ordering
key_order_by_index octets entries i j = key_order_at (stored_records octets entries) i j

abbrev pub order_at : List ℕ → List Entry → ℕ → ℕ → Ordering
order_at octets entries i j = stored_order (stored_at octets entries i) (stored_at octets entries j)
