-- The records at a name, among the records of a zone.
use Rattle.std.specs.Prelude.{◌≡◌, ℕ, ◌-◌, ◌==◌, ◌&&◌, if◌then◌else◌, Bool, IsTrue, true, Option, Some, None, List, [], ◌∷◌, length, slice_get, option_and_then, false}
use Rattle.std.specs.Int.{from_be_bytes, w16}
use Rattle.std.specs.List.{AllAdjacentBelow, list_all, list_any}
use Rattle.std.specs.Option.{option_map, option_map_or}
use Rattle.std.specs.Ordering.{is_eq, is_le, is_lt}
use Rattle.dns_wire.specs.Order.{same_name}
use Rattle.rdata_values.specs.Rtype as Rtype
use Rattle.rdata_values.specs.declared.types.RecordType.{RecordType}
use Rattle.rdata_tokens.specs.PrintedNames.{labels_in_octets}
use Rattle.zone_record.specs.CanonicalRecords.{record_order}
use Rattle.zone_record.specs.CanonicalData.{record_key}
use Rattle.zone_record.specs.Parts.{data_part}
use Rattle.zone_record.specs.Records.{data_of}
use Rattle.zone_record.specs.TypeData.{TypeData}
use Rattle.zone_record.specs.declared.record.Record.{Record}
use Rattle.zone_rules.specs.Above.{closest_from, is_wildcard, is_within}

abbrev pub type_of : {N O : Type 0} → Record N O → RecordType
type_of r = (data_of r).rtype

-- some record at a name is of a type
abbrev pub has_type_at : {N O : Type 0} → RecordType → List (List ℕ) → List (Record N O) → Bool
has_type_at rtype name records = list_any (λ r. same_name r.owner name && type_of r == rtype) records

-- some record is of a type
abbrev pub has_type_among : {N O : Type 0} → RecordType → List (Record N O) → Bool
has_type_among rtype records = list_any (λ r. type_of r == rtype) records

-- some record is at a name
abbrev pub has_owner : {N O : Type 0} → List (List ℕ) → List (Record N O) → Bool
has_owner name records = list_any (λ r. same_name r.owner name) records

-- some record is at a name or below it
abbrev pub has_owner_within : {N O : Type 0} → List (List ℕ) → List (Record N O) → Bool
has_owner_within name records = list_any (λ r. is_within r.owner name) records

-- the closest name, of a name and its ancestors, that has an owner at it or below it
abbrev pub closest_owned : {N O : Type 0} → List (Record N O) → List (List ℕ) → Option (List (List ℕ))
closest_owned records name = closest_from (λ above. has_owner_within above records) name

-- the same record in a list whose octets are held in other types
abbrev pub as_listed : {N O M P : Type 0} → Record N O → Record M P
as_listed r = record { owner = r.owner; ttl = r.ttl; class = r.class; «data» = r.«data» }

-- records are equal in canonical form, whatever their TTLs
abbrev pub is_equal_record : {N O M P : Type 0} → Record N O → Record M P → Bool
is_equal_record a b = is_eq (record_order (record_key a) (record_key b))

-- a record comes before another one in canonical order (RFC 4034 section 6)
abbrev pub comes_before : {N O M P : Type 0} → Record N O → Record M P → Bool
comes_before a b = is_lt (record_order (record_key a) (record_key b))

-- records are in canonical order (RFC 4034 section 6)
abbrev pub AreInOrder : {N O : Type 0} → List (Record N O) → Type 0
AreInOrder records = AllAdjacentBelow (λ a b. IsTrue (is_le (record_order (record_key a) (record_key b)))) records (length records)

-- all records have the class of the first
abbrev pub is_one_class : {N O : Type 0} → List (Record N O) → Bool
is_one_class records = option_map_or (λ first. list_all (λ r. r.class == first.class) records) (slice_get records 0) true

-- records are in canonical order, and flags are set if one is a DNAME, if one is at a wildcard, and if all have one class
pub record IsSortedWith {N O : Type 0} (records : List (Record N O)) (has_dname has_wildcard in_one_class : Bool) : Type 0 where
  pub in_order : AreInOrder records
  pub dname : has_dname ≡ has_type_among Rtype.dname records
  pub wildcard : has_wildcard ≡ list_any (λ r. is_wildcard r.owner) records
  pub one_class : in_one_class ≡ is_one_class records

-- the records at two indexes have the same owner, ignoring letter case
abbrev pub is_one_owner : {N O : Type 0} → List (Record N O) → ℕ → ℕ → Bool
is_one_owner records left right = option_map_or (λ a. option_map_or (λ b. same_name a.owner b.owner) (slice_get records right) false) (slice_get records left) false

-- the record before an index
abbrev pub record_before : {N O : Type 0} → List (Record N O) → ℕ → Option (Record N O)
record_before records place = if place == 0 then None else slice_get records (place - 1)

-- the octets of the field at an index of a record's data
abbrev pub field_octets : {N O : Type 0} → ℕ → Record N O → List ℕ
field_octets place r = option_map_or (λ octets. octets) (data_part (data_of r) place) []

-- the host in a record's data: of NS the first field, of MX the second, and of SRV the fourth
abbrev pub host_field : RecordType → Option ℕ
host_field rtype = if rtype == Rtype.ns then Some 0 else (if rtype == Rtype.mx then Some 1 else (if rtype == Rtype.srv then Some 3 else None))

abbrev pub host_octets : TypeData → Option (List ℕ)
host_octets d = option_and_then (data_part d) (host_field d.rtype)

-- the root as a target means that the service has no host (RFC 7505 section 3, RFC 2782)
abbrev pub but_root : List (List ℕ) → Option (List (List ℕ))
but_root [] = None
but_root (label ∷ []) = None
but_root (label ∷ next ∷ others) = Some (label ∷ next ∷ others)

abbrev pub host_in : TypeData → Option (List (List ℕ))
host_in d = option_and_then but_root (option_map labels_in_octets (host_octets d))

abbrev pub host_of : {N O : Type 0} → Record N O → Option (List (List ℕ))
host_of r = host_in (data_of r)

-- the type that an RRSIG covers, in the first two octets of its data (RFC 4034 section 3.1.1)
abbrev pub covered_type : List ℕ → RecordType
covered_type [] = 0
covered_type (high ∷ []) = 0
covered_type (high ∷ low ∷ others) = from_be_bytes w16 (high ∷ low ∷ [])

-- RRSIGs belong to the set of those that cover the same type, others to the set of their type
abbrev pub set_type : {N O : Type 0} → Record N O → RecordType
set_type r = if type_of r == Rtype.rrsig then covered_type (data_of r).octets else 0

-- the records are of one set
abbrev pub is_one_set : {N O : Type 0} → Record N O → Record N O → Bool
is_one_set a b = same_name a.owner b.owner && (a.class == b.class && (type_of a == type_of b && set_type a == set_type b))
