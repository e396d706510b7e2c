-- The error of a record: what is wrong, and where.
use Rattle.std.specs.Prelude.{ℕ, ◌≡◌, Some, None}
use Rattle.dns_lexer.specs.declared.pieces.Fault.{Fault}
use Rattle.rdata_values.specs.declared.error.ErrorKind.{ErrorKind}
use Rattle.rdata_values.specs.declared.error.ErrorKind.TheVariants.{Syntax}
use Rattle.rdata_values.specs.declared.types.RecordType.{RecordType}
use Rattle.rdata_fields.specs.declared.record_error.FieldName.{FieldName}
use Rattle.rdata_fields.specs.declared.record_error.RecordError.{RecordError}

-- an error with an offset and a kind
abbrev pub error_at : ℕ → ErrorKind → RecordError
error_at offset kind = record { offset = offset; rtype = None; field = None; kind = kind }

-- the error with the index of a field, and with the type of the record
abbrev pub error_in_field : FieldName → RecordError → RecordError
error_in_field field e = record e { field = Some field }

abbrev pub error_of_type : RecordType → RecordError → RecordError
error_of_type rtype e = record e { rtype = Some rtype }

-- an error has this offset, and no field and no type
abbrev pub IsErrorAt : ℕ → RecordError → Type 0
IsErrorAt offset e = e ≡ error_at offset e.kind

-- an error has this offset and this field, and no type
abbrev pub IsErrorInField : FieldName → ℕ → RecordError → Type 0
IsErrorInField field offset e = e ≡ error_in_field field (error_at offset e.kind)

-- a syntax error
abbrev pub error_of_fault : Fault → RecordError
error_of_fault fault = error_at fault.at (Syntax fault.wrong)
