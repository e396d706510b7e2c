-- Records that are in a store more than once.
use Rattle.std.specs.Prelude.{ℕ, ◌-◌, ◌&&◌, nat_lt, Bool, List}
use Rattle.zone_store.specs.Stored.{AddedRecord, is_same_stored, record_at}

-- the record before an index is equal to the one at it
abbrev pub is_duplicate_at : List AddedRecord → ℕ → Bool
is_duplicate_at records index = nat_lt 0 index && is_same_stored (record_at records (index - 1)) (record_at records index)
