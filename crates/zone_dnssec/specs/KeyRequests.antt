-- CDS and CDNSKEY records, which ask the parent for DS records of keys (RFC 7344 sections 3 and 4).
use Rattle.std.specs.Prelude.{ℕ, nat_eq, ◌==◌, ◌&&◌, ◌||◌, not, if◌then◌else◌, Bool, false, Option, Some, None, List, [], ◌∷◌, slice_get}
use Rattle.std.specs.Cmp.Lexicographic.{pointwise}
use Rattle.std.specs.Int.{from_be_bytes, w16}
use Rattle.std.specs.List.{list_any}
use Rattle.std.specs.Option.{option_map, option_map_or}
use Rattle.dns_wire.specs.Order.{same_name}
use Rattle.rdata_values.specs.Rtype as Rtype
use Rattle.rdata_values.specs.declared.types.RecordType.{RecordType}
use Rattle.zone_record.specs.Records.{data_of}
use Rattle.zone_record.specs.declared.record.Record.{Record}
use Rattle.zone_rules.specs.Zones.{is_one_set, type_of}
use Rattle.zone_dnssec.specs.SignedSets.{starts}
use Rattle.zone_dnssec.specs.ZoneKeys.{key_in}
use Rattle.zone_dnssec.specs.declared.keys.Key.{Key}
use Rattle.zone_dnssec.specs.declared.requests.KeyName.{KeyName}

-- `CDS 0 0 0 00` or `CDNSKEY 0 3 0 AA==` (RFC 8078 section 4)
abbrev pub is_delete_form : {N O : Type 0} → Record N O → Bool
is_delete_form r =
    type_of r == Rtype.cds && pointwise nat_eq (data_of r).octets (0 ∷ 0 ∷ 0 ∷ 0 ∷ 0 ∷ []) || type_of r == Rtype.cdnskey && pointwise nat_eq (data_of r).octets (0 ∷ 0 ∷ 3 ∷ 0 ∷ 0 ∷ [])

-- a CDS or CDNSKEY that does not ask to delete
abbrev pub asks_for_key : {N O : Type 0} → Record N O → Bool
asks_for_key r = (type_of r == Rtype.cds || type_of r == Rtype.cdnskey) && not (is_delete_form r)

abbrev pub ds_name : (tag algorithm : ℕ) → KeyName
ds_name tag algorithm = record { tag = tag; algorithm = algorithm }

-- the key tag and the algorithm of a CDS, whose data are those of a DS (RFC 4034 section 5.1)
abbrev pub name_in_ds : List ℕ → Option KeyName
name_in_ds [] = None
name_in_ds (a ∷ []) = None
name_in_ds (a ∷ b ∷ []) = None
name_in_ds (high ∷ low ∷ algorithm ∷ rest) = Some (ds_name (from_be_bytes w16 (high ∷ low ∷ [])) algorithm)

-- those of a CDNSKEY, whose data are those of a DNSKEY
abbrev pub name_in_key : List ℕ → Option KeyName
name_in_key octets = option_map (λ key. ds_name key.tag key.algorithm) (key_in octets)

abbrev pub name_of_request : {N O : Type 0} → Record N O → Option KeyName
name_of_request r = if type_of r == Rtype.cds then name_in_ds (data_of r).octets else name_in_key (data_of r).octets

abbrev pub is_of_name : KeyName → Key → Bool
is_of_name name key = key.tag == name.tag && key.algorithm == name.algorithm

-- a record asks for one of some keys
abbrev pub asks_for_some : {N O : Type 0} → List Key → Record N O → Bool
asks_for_some keys r = option_map_or (λ name. list_any (is_of_name name) keys) (name_of_request r) false

-- a record of a type that asks for one of some keys
abbrev pub is_request_of : {N O : Type 0} → List Key → RecordType → Record N O → Bool
is_request_of keys rtype r = type_of r == rtype && (asks_for_key r && asks_for_some keys r)

-- the first record of a set of CDS or CDNSKEY at the apex, none of which is of a key of the zone (RFC 7344 section 4.1)
abbrev pub asks_for_other_keys : {N O M P : Type 0} → List Key → List (List ℕ) → List (Record N O) → Option (Record M P) → Record M P → Bool
asks_for_other_keys keys origin records before r =
    asks_for_key r && (starts is_one_set before r && (same_name r.owner origin && not (list_any (λ s. same_name s.owner origin && is_request_of keys (type_of r) s) records)))

-- ---- CDS and CDNSKEY of the same keys (RFC 7344 section 4)

-- CDNSKEY for CDS, and CDS for CDNSKEY
abbrev pub other_request_type : RecordType → RecordType
other_request_type rtype = if rtype == Rtype.cds then Rtype.cdnskey else Rtype.cds

abbrev pub is_request_type : {N O : Type 0} → RecordType → Record N O → Bool
is_request_type rtype r = type_of r == rtype && asks_for_key r

abbrev pub is_same_key : KeyName → KeyName → Bool
is_same_key a b = a.tag == b.tag && a.algorithm == b.algorithm

-- a record of a type that asks for a key
abbrev pub is_request_named : {N O : Type 0} → KeyName → RecordType → Record N O → Bool
is_request_named name rtype r = is_request_type rtype r && option_map_or (is_same_key name) (name_of_request r) false

abbrev pub has_pair : {N O : Type 0} → List (List ℕ) → List (Record N O) → RecordType → KeyName → Bool
has_pair origin records rtype name = list_any (λ s. same_name s.owner origin && is_request_named name rtype s) records

-- a record at the apex asks for a key, for which no record of the other type there asks
abbrev pub is_unpaired : {N O M P : Type 0} → List (List ℕ) → List (Record N O) → Record M P → Bool
is_unpaired origin records r =
    asks_for_key r && (same_name r.owner origin && not (option_map_or (has_pair origin records (other_request_type (type_of r))) (name_of_request r) false))

-- the first CDS at the apex, which has CDNSKEY too, and one of the two types asks for a key for which the other doesn't
abbrev pub requests_differ : {N O M P : Type 0} → List (List ℕ) → List (Record N O) → Option (Record M P) → Record M P → Bool
requests_differ origin records before r =
    is_request_type Rtype.cds r
    && (starts is_one_set before r && (same_name r.owner origin && (list_any (λ s. same_name s.owner origin && is_request_type Rtype.cdnskey s) records && list_any (is_unpaired origin records) records)))

-- the record at an index is unpaired
abbrev pub is_unpaired_in : {N O : Type 0} → List (List ℕ) → List (Record N O) → ℕ → Bool
is_unpaired_in origin records place = option_map_or (is_unpaired origin records) (slice_get records place) false
