-- The texts of errors, and their conversion from the errors of the layer below.
use Rattle.std.specs.Prelude.{ℕ, List, codes}
use Rattle.dns_symbol.specs.Symbol.{chars_error_text}
use Rattle.dns_wire.specs.declared.error.SplitLabelError.{SplitLabelError}
use Rattle.dns_wire.specs.declared.error.SplitLabelError.TheVariants.{Pointer, BadType, ShortInput as Short}
use Rattle.dns_wire.specs.declared.error.PushError.{PushError}
use Rattle.dns_wire.specs.declared.error.PushError.TheVariants.{LongLabel as PushLabel, LongName as PushName, ShortBuf as PushShort}
use Rattle.dns_name.specs.declared.name.error.UncertainDnameError.{UncertainDnameError}
use Rattle.dns_name.specs.declared.name.error.UncertainDnameError.TheVariants.{BadLabel, CompressedName, LongName as Long, TrailingData, ShortInput}
use Rattle.dns_name.specs.declared.name.error.FromStrError.{FromStrError}
use Rattle.dns_name.specs.declared.name.error.FromStrError.TheVariants.{Symbol, BadOctet, BinaryLabel, EmptyLabel, LongLabel, LongName, ShortBuf}

abbrev pub uncertain_name_text : UncertainDnameError → List ℕ
uncertain_name_text (BadLabel e) = codes "bad label type"
uncertain_name_text CompressedName = codes "compressed domain name"
uncertain_name_text Long = codes "long domain name"
uncertain_name_text TrailingData = codes "trailing data"
uncertain_name_text ShortInput = codes "unexpected end of input"

abbrev pub of_split_error : SplitLabelError → UncertainDnameError
of_split_error (Pointer place) = CompressedName
of_split_error (BadType e) = BadLabel e
of_split_error Short = ShortInput

abbrev pub name_from_str_text : FromStrError → List ℕ
name_from_str_text (Symbol e) = chars_error_text e
name_from_str_text BadOctet = codes "illegal character in domain name"
name_from_str_text BinaryLabel = codes "binary label"
name_from_str_text EmptyLabel = codes "empty label"
name_from_str_text LongLabel = codes "long label"
name_from_str_text LongName = codes "long domain name"
name_from_str_text ShortBuf = codes "buffer size exceeded"

abbrev pub of_push_error : PushError → FromStrError
of_push_error PushLabel = LongLabel
of_push_error PushName = LongName
of_push_error PushShort = ShortBuf
