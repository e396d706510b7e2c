-- The texts of errors: what is wrong, after the type and the field of RDATA.
use Rattle.std.specs.Prelude.{ℕ, Bool, true, false, if◌then◌else◌, List, [], ◌++◌, codes, Option, Some, None}
use Rattle.dns_lexer.specs.declared.pieces.Wrong.{Wrong}
use Rattle.dns_lexer.specs.declared.pieces.Wrong.TheVariants.{BadEscape as WrongEscape}
use Rattle.rdata.specs.ByType.{name_of_field, shape_of_code}
use Rattle.rdata_fields.specs.declared.record_error.FieldName.{FieldName}
use Rattle.rdata_fields.specs.declared.record_error.RecordError.{RecordError}
use Rattle.rdata_values.specs.ErrorKinds.{error_kind_text, syntax_text}
use Rattle.rdata_values.specs.Types.{type_text}
use Rattle.rdata_values.specs.declared.error.ErrorKind.{ErrorKind}
use Rattle.rdata_values.specs.declared.error.ErrorKind.TheVariants.{MissingParam, ShortBuf, Syntax}
use Rattle.rdata_values.specs.declared.types.RecordType.{RecordType}

-- an escape has the same text as in RDATA
abbrev pub syntax_error_text : Wrong → List ℕ
syntax_error_text WrongEscape = codes "illegal escape sequence"
syntax_error_text wrong = syntax_text wrong

abbrev pub common_kind_text : ErrorKind → List ℕ
common_kind_text (Syntax wrong) = syntax_error_text wrong
common_kind_text kind = error_kind_text kind

-- entries are parsed with a capacity of 65,535 octets, which only longer RDATA and the name of a file to include exceed (RFC 1035 sections 3.2.1 and 5.1)
abbrev pub data_kind_text : ErrorKind → List ℕ
data_kind_text ShortBuf = codes "RDATA exceeds 65535 octets"
data_kind_text kind = common_kind_text kind

abbrev pub entry_kind_text : ErrorKind → List ℕ
entry_kind_text ShortBuf = codes "file name exceeds 65535 octets"
entry_kind_text kind = common_kind_text kind

-- what is wrong, with RDATA of a type or with another part of an entry
abbrev pub kind_text : Option RecordType → ErrorKind → List ℕ
kind_text None kind = entry_kind_text kind
kind_text (Some rtype) kind = data_kind_text kind

-- the name of a field of a type's RDATA, if there is one
abbrev pub field_of_type : RecordType → Option FieldName → Option (List ℕ)
field_of_type rtype None = None
field_of_type rtype (Some field) = name_of_field (shape_of_code rtype) field

abbrev pub field_of_part : Option RecordType → Option FieldName → Option (List ℕ)
field_of_part None field = None
field_of_part (Some rtype) field = field_of_type rtype field

-- an error is about all of the RDATA, and not about the field at its offset
abbrev pub is_of_all_data : ErrorKind → Bool
is_of_all_data ShortBuf = true
is_of_all_data (MissingParam key) = true
is_of_all_data kind = false

-- the name of the field that is rejected, if one is
abbrev pub rejected_field : RecordError → Option (List ℕ)
rejected_field e = if is_of_all_data e.kind then None else field_of_part e.rtype e.field

-- the type of RDATA with a colon, as in `MX: `
abbrev pub error_type_prefix : Option RecordType → List ℕ
error_type_prefix None = []
error_type_prefix (Some rtype) = type_text rtype ++ codes ": "

-- the name of a part with a colon, as in `preference: `
abbrev pub part_prefix : Option (List ℕ) → List ℕ
part_prefix None = []
part_prefix (Some name) = name ++ codes ": "

-- what is wrong with a part, as in `preference: decimal number overflow`
abbrev pub part_message : Option (List ℕ) → RecordError → List ℕ
part_message part e = part_prefix part ++ kind_text e.rtype e.kind

-- the text of an error, as in `MX: preference: decimal number overflow`
abbrev pub error_text : RecordError → List ℕ
error_text e = error_type_prefix e.rtype ++ part_message (rejected_field e) e

-- the text of a token on a line after that at whose end RDATA end, if these are read alone, as in `MX: the data end at the end of the line`
abbrev pub line_end_text : Option RecordType → List ℕ
line_end_text rtype = error_type_prefix rtype ++ codes "the data end at the end of the line"
