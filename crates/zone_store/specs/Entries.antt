-- Entries: the first octets of a record's key, and where its other octets are among those of a store.
use Rattle.std.specs.Prelude.{◌≡◌, ◌<◌, ◌+◌, ◌*◌, ◌^◌, ◌/◌, ◌%◌, ◌-◌, ℕ, if◌then◌else◌, All, Bool, List, ◌++◌, length, take, drop}
use Rattle.std.specs.Int.{to_be_bytes, w64}
use Rattle.std.specs.Ordering.{is_lt, nat_cmp, ordering_then}
use Rattle.std.specs.declared.cmp.Ordering.{Ordering}
use Rattle.zone_record.specs.Names.{octet_order}
use Rattle.zone_store.specs.Counted.{first_length, after_length, length_octets}
use Rattle.zone_store.specs.Parts.{RecordParts, PartsFit, record_parts, parts_octets, begins_parts, first_parts}
use Rattle.zone_store.specs.Prefixes.{prefix_number}
use Rattle.zone_store.specs.Stored.{AddedRecord, absent_parts, added_record, parts_cmp, stored_order, type_order}
use Rattle.zone_store.specs.declared.entries.Entry.{Entry}
use Rattle.zone_store.specs.declared.records.GroupEntry.{GroupEntry}

-- the first seven octets of the key as a number, and where the other octets of the record begin
abbrev pub prefix_of : Entry → ℕ
prefix_of e = e.high * 2 ^ 24 + e.middle / 2 ^ 8

abbrev pub record_offset : Entry → ℕ
record_offset e = e.middle % 2 ^ 8 * 2 ^ 32 + e.low

-- the octets from there on
abbrev pub octets_of : List ℕ → Entry → List ℕ
octets_of octets e = drop (record_offset e) octets

-- the length of a key, and its octets after the first seven
abbrev pub rest_octets : List ℕ → List ℕ
rest_octets key = length_octets (length key) ++ drop 7 key

-- a record without the first seven octets of its key: the length of the key, its other octets, and all else
unfoldable pub record_octets : AddedRecord → List ℕ
record_octets r = length_octets (length r.key) ++ (drop 7 r.key ++ parts_octets r.parts)

abbrev pub stored_octets : List ℕ → GroupEntry → List ℕ
stored_octets key added = record_octets (added_record key (record_parts added))

-- the octets of a key after the first seven, and what follows them, in octets that begin with its length
abbrev pub first_rest : List ℕ → List ℕ
first_rest octets = take (first_length octets - 7) (after_length octets)

abbrev pub after_rest : List ℕ → List ℕ
after_rest octets = drop (first_length octets - 7) (after_length octets)

-- the seven octets of a number, the most significant first
abbrev pub seven_octets : ℕ → List ℕ
seven_octets prefix = drop 1 (to_be_bytes w64 prefix)

-- a key by its first octets as a number, and by octets that begin with its length
abbrev pub stored_key : ℕ → List ℕ → List ℕ
stored_key prefix octets = take (first_length octets) (seven_octets prefix) ++ first_rest octets

-- all of a record but its key, at the start of octets
abbrev pub parts_or_absent : List ℕ → RecordParts
parts_or_absent octets = if begins_parts octets then first_parts octets else absent_parts

-- the key, and all else, of the record of an entry
abbrev pub key_at : List ℕ → Entry → List ℕ
key_at octets e = stored_key (prefix_of e) (octets_of octets e)

abbrev pub parts_at : List ℕ → Entry → RecordParts
parts_at octets e = parts_or_absent (after_rest (octets_of octets e))

abbrev pub record_of : List ℕ → Entry → AddedRecord
record_of octets e = record { key = key_at octets e; parts = parts_at octets e }

-- octets have others at an offset
abbrev pub HasAt : List ℕ → ℕ → List ℕ → Type 0
HasAt octets offset part = (front back : List ℕ) × (octets ≡ front ++ (part ++ back)) × (length front ≡ offset)

-- an entry is that of a record: it has the first octets of the key, and the store has the others where the entry says
pub record IsEntryOf (octets : List ℕ) (e : Entry) (r : AddedRecord) : Type 0 where
  pub key_fits : length r.key < 2 ^ 16
  pub key_small : All (λ o. o < 256) r.key
  pub parts_fit : PartsFit r.parts
  pub has : HasAt octets (record_offset e) (record_octets r)
  pub prefix : prefix_of e ≡ prefix_number 7 r.key
  pub middle_fits : e.middle < 2 ^ 32
  pub low_fits : e.low < 2 ^ 32

abbrev pub IsStoreEntry : List ℕ → Entry → Type 0
IsStoreEntry octets e = (r : AddedRecord) × IsEntryOf octets e r

-- an entry has a prefix and an offset
abbrev pub IsEntryFor : ℕ → ℕ → Entry → Type 0
IsEntryFor prefix offset e = (prefix_of e ≡ prefix) × (record_offset e ≡ offset) × (e.middle < 2 ^ 32) × (e.low < 2 ^ 32)

-- keys without their first seven octets compare as the octets that they have, then by their lengths
abbrev pub rests_order : List ℕ → List ℕ → Ordering
rests_order a b = ordering_then (octet_order (first_rest a) (first_rest b)) (nat_cmp (first_length a) (first_length b))

abbrev pub rest_order : List ℕ → List ℕ → Ordering
rest_order octets key = ordering_then (octet_order (first_rest octets) (drop 7 key)) (nat_cmp (first_length octets) (length key))

-- a key compared with another: the prefixes, then the rest
abbrev pub prefixed_keys : List ℕ → Entry → ℕ → List ℕ → Ordering
prefixed_keys octets e prefix key = ordering_then (nat_cmp (prefix_of e) prefix) (rest_order (octets_of octets e) key)

-- the keys of two entries compared: the prefixes, then the rests
abbrev pub entry_keys_order : List ℕ → Entry → Entry → Ordering
entry_keys_order octets a b = ordering_then (nat_cmp (prefix_of a) (prefix_of b)) (rests_order (octets_of octets a) (octets_of octets b))

-- records compared: the prefixes of their keys, then the keys, then class, type and RDATA
abbrev pub octets_order : List ℕ → List ℕ → Ordering
octets_order a b = ordering_then (rests_order a b) (parts_cmp (parts_or_absent (after_rest a)) (parts_or_absent (after_rest b)))

abbrev pub prefixed_records : List ℕ → Entry → Entry → Ordering
prefixed_records octets a b = ordering_then (nat_cmp (prefix_of a) (prefix_of b)) (octets_order (octets_of octets a) (octets_of octets b))

-- as the records, and those that are equal in the order of their offsets
abbrev pub prefixed_order : List ℕ → Entry → Entry → Ordering
prefixed_order octets a b = ordering_then (prefixed_records octets a b) (nat_cmp (record_offset a) (record_offset b))

abbrev pub entry_order : List ℕ → Entry → Entry → Ordering
entry_order octets a b = ordering_then (stored_order (record_of octets a) (record_of octets b)) (nat_cmp (record_offset a) (record_offset b))

-- a record is before a key, or before an RRset, by the prefixes first
abbrev pub is_before_key : List ℕ → ℕ → List ℕ → Entry → Bool
is_before_key octets prefix key e = is_lt (prefixed_keys octets e prefix key)

abbrev pub is_before_rrset : List ℕ → ℕ → List ℕ → ℕ → ℕ → Entry → Bool
is_before_rrset octets prefix key class code e = is_lt (ordering_then (prefixed_keys octets e prefix key) (type_order (parts_at octets e) class code))
