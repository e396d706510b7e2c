-- A store: octets, and an entry for each record.
use Rattle.std.specs.Prelude.{◌≡◌, ℕ, List, [], ◌∷◌, ◌++◌, All, map}
use Rattle.std.specs.List.Sorted.{IsNonDecreasingBy, IsSorted}
use Rattle.zone_store.specs.Entries.{IsStoreEntry, record_offset, record_of}
use Rattle.zone_store.specs.Stored.{AddedRecord, stored_order}
use Rattle.zone_store.specs.declared.entries.Entry.{Entry}

-- the records of entries
abbrev pub stored_records : List ℕ → List Entry → List AddedRecord
stored_records octets entries = map (record_of octets) entries

-- each entry is that of a record, in the order in which the records were added
pub record IsStored (octets : List ℕ) (entries : List Entry) : Type 0 where
  pub are : All (IsStoreEntry octets) entries
  pub rise : IsNonDecreasingBy record_offset entries

-- the same after a record was added
pub record StoresMore (octets : List ℕ) (entries : List Entry) (new_octets : List ℕ) (new_entries : List Entry) (added : AddedRecord) : Type 0 where
  pub stored : IsStored new_octets new_entries
  pub records : stored_records new_octets new_entries ≡ stored_records octets entries ++ added ∷ []

-- each entry is that of a record, in the order of the records
pub record IsSortedStore (octets : List ℕ) (entries : List Entry) : Type 0 where
  pub are : All (IsStoreEntry octets) entries
  pub sorted : IsSorted stored_order (stored_records octets entries)
