-- The canonical order of records (RFC 4034 section 6), for the records of a store.
use Rattle.std.specs.Prelude.{◌≡◌, ℕ, List}
use Rattle.zone_record.specs.KeyNames.{key_name}
use Rattle.zone_record.specs.Keys.{order_key}
use Rattle.zone_record.specs.CanonicalRecords.{RecordKey, record_order}
use Rattle.zone_record.specs.CanonicalData.{canonical_data}
use Rattle.zone_record.specs.TypeData.{IsTypeData}
use Rattle.zone_store.specs.Stored.{AddedRecord, stored_order}

-- the key is that of a name, and the RDATA is of the type
pub record IsValidRecord (r : AddedRecord) : Type 0 where
  pub owner : (name : List (List ℕ)) × (r.key ≡ order_key name)
  pub rdata : IsTypeData r.parts.code r.parts.rdata

-- the parts by which a record is sorted: the name that has the key, the class, the type, and the RDATA in canonical form
abbrev pub sort_key : AddedRecord → RecordKey
sort_key r = record { owner = key_name r.key; class = r.parts.class; rtype = r.parts.code; octets = canonical_data r.parts.code r.parts.rdata }

-- two valid records compare in canonical order
abbrev pub AreInCanonicalOrder : AddedRecord → AddedRecord → Type 0
AreInCanonicalOrder a b = IsValidRecord a → IsValidRecord b → stored_order a b ≡ record_order (sort_key a) (sort_key b)
