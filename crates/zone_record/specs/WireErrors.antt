-- The error of octets that are not RDATA of a type.
use Rattle.std.specs.Prelude.{ℕ, ◌<◌, ◌≤◌, List, length, codes}
use Rattle.rdata_values.specs.declared.types.RecordType.{RecordType}
use Rattle.rdata.specs.ByType.{IsDataType, HasShape, shape_of_code}
use Rattle.rdata.specs.Data.{IsDataOf}
use Rattle.rdata.specs.Limits.{max_data}
use Rattle.rdata.specs.declared.shape.Shape.{Shape}
use Rattle.zone_record.specs.declared.error.WireError.{WireError}
use Rattle.zone_record.specs.declared.error.WireError.TheVariants.{NoDataType, LongData, NotOfType}

-- the first of all reasons
abbrev pub RefusesWire : RecordType → List ℕ → WireError → Type 0
RefusesWire rtype octets NoDataType = IsDataType rtype → ⊥
RefusesWire rtype octets LongData = IsDataType rtype × (max_data < length octets)
RefusesWire rtype octets NotOfType = IsDataType rtype × (length octets ≤ max_data) × ((shape : Shape) × HasShape (shape_of_code rtype) shape × (IsDataOf shape octets → ⊥))

abbrev pub wire_error_text : WireError → List ℕ
wire_error_text NoDataType = codes "type has no data in zones"
wire_error_text LongData = codes "record data with more than 65535 octets"
wire_error_text NotOfType = codes "these octets are no data of the type"
