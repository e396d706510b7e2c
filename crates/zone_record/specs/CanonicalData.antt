-- The canonical form of RDATA by its type (RFC 4034 section 6.2, RFC 6840 section 5.1), and of records.
use Rattle.std.specs.Prelude.{ℕ, ◌==◌, if◌then◌else◌, Option, Some, None, List, [], ◌∷◌, ◌++◌, length, take, drop}
use Rattle.std.specs.Int.{to_be_bytes, w16, w32}
use Rattle.std.specs.List.{list_any}
use Rattle.std.specs.Ordering.{nat_cmp, ordering_then}
use Rattle.std.specs.declared.cmp.Ordering.{Ordering}
use Rattle.dns_octets.specs.Lowered.{lowered}
use Rattle.dns_wire.specs.Wire.{wire}
use Rattle.rdata_fields.specs.declared.field.Field.{Field}
use Rattle.zone_record.specs.FieldForms.{lowered_types, canonical_field}
use Rattle.zone_record.specs.Names.{octet_order}
use Rattle.zone_record.specs.CanonicalRecords.{RecordKey}
use Rattle.zone_record.specs.EmbeddedNames.{fields_to_last_name}
use Rattle.rdata_values.specs.declared.classes.Class.{Class}
use Rattle.rdata_values.specs.declared.types.RecordType.{RecordType}
use Rattle.rdata.specs.ByType.{shape_of_code}
use Rattle.rdata.specs.Printing.{field_size}
use Rattle.rdata.specs.Types.{TypeShape}
use Rattle.zone_record.specs.Records.{data_of}
use Rattle.zone_record.specs.TypeData.{TypeData}
use Rattle.zone_record.specs.declared.record.Record.{Record}

abbrev pub fields_of_shape : Option TypeShape → List Field
fields_of_shape None = []
fields_of_shape (Some s) = s.fields

-- the fields of a type with a text form, and of any other type the octets and names that the RDATA begins with
abbrev pub fields_in_data : Option TypeShape → RecordType → List ℕ → List Field
fields_in_data None rtype octets = fields_to_last_name rtype octets
fields_in_data (Some s) rtype octets = s.fields

-- the fields of RDATA of a type whose names are lowered, or no fields for any other type
abbrev pub fields_to_lower : RecordType → List ℕ → List Field
fields_to_lower rtype octets = if list_any (λ t. t == rtype) lowered_types then fields_in_data (shape_of_code rtype) rtype octets else []

-- octets with each of these first fields in canonical form, and what follows them unchanged
abbrev pub lowered_in : List Field → List ℕ → List ℕ
lowered_in [] octets = octets
lowered_in (f ∷ fs) octets = canonical_field f (take (field_size f octets) octets) ++ lowered_in fs (drop (field_size f octets) octets)

-- RDATA with its names in lower case if the type requires that
abbrev pub canonical_data : RecordType → List ℕ → List ℕ
canonical_data rtype octets = lowered_in (fields_to_lower rtype octets) octets

-- type, class, TTL, the length of the RDATA, and the RDATA
abbrev pub record_after_owner : RecordType → Class → ℕ → List ℕ → List ℕ
record_after_owner rtype class ttl form = to_be_bytes w16 rtype ++ (to_be_bytes w16 class ++ (to_be_bytes w32 ttl ++ (to_be_bytes w16 (length form) ++ form)))

-- the owner in lower case, and after it the RDATA in canonical form
abbrev pub canonical_with_ttl : {N O : Type 0} → ℕ → Record N O → List ℕ
canonical_with_ttl ttl r = lowered (wire r.owner) ++ record_after_owner (data_of r).rtype r.class ttl (canonical_data (data_of r).rtype (data_of r).octets)

abbrev pub canonical_record : {N O : Type 0} → Record N O → List ℕ
canonical_record r = canonical_with_ttl r.ttl r

-- ---- order

-- by the type, then by the octets in canonical form
abbrev pub data_order : TypeData → TypeData → Ordering
data_order a b = ordering_then (nat_cmp a.rtype b.rtype) (octet_order (canonical_data a.rtype a.octets) (canonical_data b.rtype b.octets))

-- the parts by which a record is sorted
abbrev pub record_key : {N O : Type 0} → Record N O → RecordKey
record_key r = record { owner = r.owner; class = r.class; rtype = (data_of r).rtype; octets = canonical_data (data_of r).rtype (data_of r).octets }
