-- A total order of octets that is the canonical order for RDATA of a type.
use Rattle.std.specs.Prelude.{◌≡◌, Option, Some, None, List, [], ◌∷◌, ℕ, ◌==◌, if◌then◌else◌, take, drop}
use Rattle.std.specs.List.{list_any}
use Rattle.std.specs.Ordering.{ordering_then}
use Rattle.std.specs.declared.cmp.Ordering.{Ordering}
use Rattle.rdata_fields.specs.declared.field.Field.{Field}
use Rattle.zone_record.specs.FieldForms.{lowered_types, canonical_field}
use Rattle.zone_record.specs.Names.{octet_order}
use Rattle.zone_record.specs.EmbeddedNames.{fields_to_last_name}
use Rattle.rdata_values.specs.declared.types.RecordType.{RecordType}
use Rattle.rdata.specs.ByType.{shape_of_code}
use Rattle.rdata.specs.Printing.{field_size}
use Rattle.rdata.specs.Types.{TypeShape}
use Rattle.zone_record.specs.CanonicalData.{canonical_data, lowered_in}
use Rattle.zone_record.specs.TypeData.{IsTypeData}

-- by the canonical forms of the first fields, one after another, and then by the octets after them
abbrev pub parts_order : List Field → List ℕ → List ℕ → Ordering
parts_order [] a b = octet_order a b
parts_order (f ∷ fs) a b =
    ordering_then (octet_order (canonical_field f (take (field_size f a) a)) (canonical_field f (take (field_size f b) b))) (parts_order fs (drop (field_size f a) a) (drop (field_size f b) b))

-- by the fields of a type with a presentation format, and for any other type by the canonical forms
abbrev pub order_with_shape : Option TypeShape → RecordType → List ℕ → List ℕ → Ordering
order_with_shape None rtype a b = octet_order (lowered_in (fields_to_last_name rtype a) a) (lowered_in (fields_to_last_name rtype b) b)
order_with_shape (Some s) rtype a b = parts_order s.fields a b

abbrev pub any_data_order : RecordType → List ℕ → List ℕ → Ordering
any_data_order rtype a b = if list_any (λ t. t == rtype) lowered_types then order_with_shape (shape_of_code rtype) rtype a b else octet_order a b

-- of RDATA of the type, the order is the canonical one
abbrev pub OrdersTypeData : RecordType → List ℕ → List ℕ → Ordering → Type 0
OrdersTypeData rtype a b order = IsTypeData rtype a → IsTypeData rtype b → order ≡ octet_order (canonical_data rtype a) (canonical_data rtype b)
