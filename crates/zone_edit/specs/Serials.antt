-- Edits of the serial of an SOA.
use Rattle.std.specs.Prelude.{⊤, ◌≡◌, ℕ, ◌+◌, Bool, ◌&&◌, if◌then◌else◌, nat_le, nat_lt, List, [], ◌∷◌, length, Option, None, Some}
use Rattle.std.specs.Fmt.{decimal}
use Rattle.std.specs.List.{list_all}
use Rattle.dns_symbol.specs.Symbol.{is_digit}
use Rattle.dns_lexer.specs.Pieces.{between}
use Rattle.dns_lexer.specs.declared.pieces.Span.{Span}
use Rattle.zone_edit.specs.declared.serial.SerialSpelling.{SerialSpelling}
use Rattle.zone_edit.specs.declared.serial.SerialSpelling.TheVariants.{Decimal, Escaped, Generated as GeneratedSerial, Generic}
use Rattle.zone_edit.specs.declared.serial.SerialToken.{SerialToken}
use Rattle.zone_edit.specs.declared.serial.SoaEdit.{SoaEdit}
use Rattle.zone_edit.specs.declared.serial.SoaError.{SoaError}
use Rattle.zone_edit.specs.declared.serial.SoaError.TheVariants.{Differing, Generated, GenericForm, Included, NoSoa, NotDecimal, OutOfMemory}
use Rattle.zone_edit.specs.Changes.{are_same}
use Rattle.zone_edit.specs.Marks.{is_generic_mark}

abbrev pub are_decimal : List ℕ → Bool
are_decimal octets = list_all is_digit octets

-- a token is decimal digits
abbrev pub is_number : List ℕ → Span → Bool
is_number octets t = nat_le t.end (length octets) && nat_lt t.start t.end && are_decimal (between octets t.start t.end)

abbrev pub spelled_token : Span → SerialSpelling → SerialToken
spelled_token span spelling = record { span = span; spelling = spelling }

-- the third of the tokens, the serial of an SOA (RFC 1035 section 3.3.13), and how it is spelled
abbrev pub serial_token : List ℕ → List Span → Option SerialToken
serial_token octets (first ∷ second ∷ serial ∷ tokens) =
    if is_generic_mark octets first then Some (spelled_token first Generic)
    else (if is_number octets serial then Some (spelled_token serial Decimal) else Some (spelled_token serial Escaped))
serial_token octets (first ∷ second ∷ []) = None
serial_token octets (first ∷ []) = None
serial_token octets [] = None

-- the index, counted from another, of the first SOA with other RDATA
abbrev pub first_differing : List ℕ → ℕ → List SoaEdit → Option ℕ
first_differing octets i [] = None
first_differing octets i (s ∷ soas) = if are_same octets s.rdata.now then first_differing octets (i + 1) soas else Some i

abbrev pub differing_error : Option ℕ → Option SoaError
differing_error None = None
differing_error (Some i) = Some (Differing i)

-- a zone has no SOA, or has SOAs that differ
abbrev pub soas_error : List SoaEdit → Option SoaError
soas_error [] = Some NoSoa
soas_error (s ∷ soas) = differing_error (first_differing s.rdata.now 1 soas)

-- why the serial of an SOA with an index can't be replaced
abbrev pub spelling_error : ℕ → SerialSpelling → Option SoaError
spelling_error i Decimal = None
spelling_error i Escaped = Some (NotDecimal i)
spelling_error i Generic = Some (GenericForm i)
spelling_error i GeneratedSerial = Some (Generated i)

abbrev pub soa_error : ℕ → SoaEdit → Option SoaError
soa_error i s = if s.is_included then Some (Included i) else spelling_error i s.serial.spelling

-- the first error of SOAs, whose indexes are counted from a number
abbrev pub error_or : Option SoaError → Option SoaError → Option SoaError
error_or (Some e) other = Some e
error_or None other = other

abbrev pub edit_error : ℕ → List SoaEdit → Option SoaError
edit_error i [] = None
edit_error i (s ∷ soas) = error_or (soa_error i s) (edit_error (i + 1) soas)

-- why the serial of an SOA, or those of all SOAs, aren't replaced: an allocation failed, or it can't be
abbrev pub IsSoaError : ℕ → SoaEdit → SoaError → Type 0
IsSoaError i s OutOfMemory = ⊤
IsSoaError i s e = soa_error i s ≡ Some e

abbrev pub IsSerialError : List SoaEdit → SoaError → Type 0
IsSerialError soas OutOfMemory = ⊤
IsSerialError soas e = edit_error 0 soas ≡ Some e

-- the token of each serial, and the text that replaces it
abbrev pub serial_spans : List SoaEdit → List Span
serial_spans [] = []
serial_spans (s ∷ soas) = s.serial.span ∷ serial_spans soas

abbrev pub serial_texts : ℕ → List SoaEdit → List (List ℕ)
serial_texts serial [] = []
serial_texts serial (s ∷ soas) = decimal serial ∷ serial_texts serial soas
