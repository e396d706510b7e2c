-- The fields of RDATA.
use Rattle.std.specs.Prelude.{ℕ, zero, suc, Option, Some, None, List, [], ◌∷◌, take, drop}
use Rattle.rdata_fields.specs.declared.field.Field.{Field}
use Rattle.rdata.specs.ByType.{shape_of_code}
use Rattle.rdata.specs.Printing.{field_size}
use Rattle.zone_record.specs.CanonicalData.{fields_of_shape}
use Rattle.zone_record.specs.TypeData.{TypeData}

-- the octets of the field at an index, among the fields that octets begin with
abbrev pub field_part : List Field → ℕ → List ℕ → Option (List ℕ)
field_part [] place octets = None
field_part (f ∷ fs) zero octets = Some (take (field_size f octets) octets)
field_part (f ∷ fs) (suc place) octets = field_part fs place (drop (field_size f octets) octets)

abbrev pub data_part : TypeData → ℕ → Option (List ℕ)
data_part d place = field_part (fields_of_shape (shape_of_code d.rtype)) place d.octets
