-- RDATA of a type.
use Rattle.std.specs.Prelude.{ℕ, ◌≤◌, List, length}
use Rattle.rdata_values.specs.declared.types.RecordType.{RecordType}
use Rattle.rdata.specs.ByType.{IsDataType, HasShape, shape_of_code}
use Rattle.rdata.specs.Data.{IsDataOf}
use Rattle.rdata.specs.Limits.{max_data}
use Rattle.rdata.specs.declared.shape.Shape.{Shape}

-- a type, and octets
pub record TypeData : Type 0 where
  pub rtype : RecordType
  pub octets : List ℕ

-- octets are RDATA of a type: its records can be in a zone, there are not too many octets, and they are RDATA of its shape if it has a text form
pub record IsTypeData (rtype : RecordType) (octets : List ℕ) : Type 0 where
  pub in_zones : IsDataType rtype
  pub short : length octets ≤ max_data
  pub shaped : (shape : Shape) → HasShape (shape_of_code rtype) shape → IsDataOf shape octets
