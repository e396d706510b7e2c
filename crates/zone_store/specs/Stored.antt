-- The records of a store, and their order.
use Rattle.std.specs.Prelude.{◌≡◌, true, false, ℕ, Bool, List, [], get_or}
use Rattle.std.specs.List.{list_any}
use Rattle.std.specs.List.Sorted.{IsPartitionPoint}
use Rattle.std.specs.Ordering.{is_eq, is_lt, nat_cmp, ordering_then}
use Rattle.std.specs.declared.cmp.Ordering.{Ordering}
use Rattle.zone_record.specs.Names.{octet_order}
use Rattle.zone_record.specs.AnyData.{any_data_order}
use Rattle.zone_store.specs.Parts.{RecordParts}

-- a record: the order key of its owner, and the rest
pub record AddedRecord : Type 0 where
  pub key : List ℕ
  pub parts : RecordParts

abbrev pub added_record : List ℕ → RecordParts → AddedRecord
added_record key parts = record { key = key; parts = parts }

-- the parts of no record
abbrev pub absent_parts : RecordParts
absent_parts = record { code = 0; class = 0; ttl = 0; file = 0; offset = 0; rdata = [] }

-- the record at an index
abbrev pub record_at : List AddedRecord → ℕ → AddedRecord
record_at records index = get_or records index (added_record [] absent_parts)

-- the order of the keys of the records at two indexes, and that they have one key
abbrev pub key_order_at : List AddedRecord → ℕ → ℕ → Ordering
key_order_at records i j = octet_order (record_at records i).key (record_at records j).key

abbrev pub HaveOneKey : List AddedRecord → ℕ → ℕ → Type 0
HaveOneKey records i j = (record_at records i).key ≡ (record_at records j).key

-- by class and type, as numbers
abbrev pub type_order : RecordParts → ℕ → ℕ → Ordering
type_order r class code = ordering_then (nat_cmp r.class class) (nat_cmp r.code code)

-- RDATA by their types, then in canonical form
abbrev pub typed_data_order : (rtype : ℕ) → List ℕ → (other_type : ℕ) → List ℕ → Ordering
typed_data_order rtype rdata other_type other = ordering_then (nat_cmp rtype other_type) (any_data_order rtype rdata other)

-- by class, then type, then RDATA
abbrev pub parts_cmp : RecordParts → RecordParts → Ordering
parts_cmp a b = ordering_then (type_order a b.class b.code) (any_data_order a.code a.rdata b.rdata)

-- by the owners' keys, then class, then type, then RDATA: the canonical order of records (RFC 4034 section 6)
abbrev pub stored_order : AddedRecord → AddedRecord → Ordering
stored_order a b = ordering_then (octet_order a.key b.key) (parts_cmp a.parts b.parts)

-- a record compared with an RRset: by the owner's key, then class, then type
abbrev pub order_to_rrset : AddedRecord → List ℕ → ℕ → ℕ → Ordering
order_to_rrset r key class code = ordering_then (octet_order r.key key) (type_order r.parts class code)

-- the number of records whose key is less than a key, which come first
abbrev pub CountsBeforeKey : List ℕ → List AddedRecord → ℕ → Type 0
CountsBeforeKey key records count = IsPartitionPoint (λ r. is_lt (octet_order r.key key) ≡ true) (λ r. is_lt (octet_order r.key key) ≡ false) records count

-- the number of records that come before an RRset
abbrev pub CountsBeforeRrset : List ℕ → ℕ → ℕ → List AddedRecord → ℕ → Type 0
CountsBeforeRrset key class code records count = IsPartitionPoint (λ r. is_lt (order_to_rrset r key class code) ≡ true) (λ r. is_lt (order_to_rrset r key class code) ≡ false) records count

-- some record is of an RRset
abbrev pub has_stored_rrset : List ℕ → ℕ → ℕ → List AddedRecord → Bool
has_stored_rrset key class code records = list_any (λ r. is_eq (order_to_rrset r key class code)) records

-- records are equal but for their TTLs and where they come from
abbrev pub is_same_stored : AddedRecord → AddedRecord → Bool
is_same_stored a b = is_eq (stored_order a b)
