-- RDATA as the tokens that it prints as.
use Rattle.std.specs.Prelude.{ℕ, None, ◌+◌, if◌then◌else◌, List, [], ◌∷◌, ◌++◌, length, take, drop, slice_index}
use Rattle.dns_symbol.specs.Characters.{double_quote}
use Rattle.rdata_fields.specs.Fields.{field_form}
use Rattle.rdata_fields.specs.declared.field.Field.{Field}
use Rattle.rdata_fields.specs.declared.field.Field.TheVariants.{Number8, Number16, Number32, Interval, Ipv4, Ipv6, RecordType, SigType, Algorithm, CertificateType, SyncScheme, Eui48, Eui64, Time, Locator, String, PsdnAddress, Tag, Salt, Hash, Name}
use Rattle.rdata.specs.GatewayKeys.{labels_size}
use Rattle.rdata.specs.Rests.{PrintedToken}
use Rattle.rdata.specs.Generic.{generic_form}
use Rattle.rdata.specs.RestKinds.{has_no_text, rest_form}
use Rattle.rdata.specs.declared.rest.Rest.{Rest}
use Rattle.rdata.specs.declared.shape.Shape.{Shape}

-- the number in the first octet, and 1 for that octet
abbrev pub counted_size : List ℕ → ℕ
counted_size octets = 1 + slice_index octets 0

-- the length of the first field, in octets
abbrev pub field_size : Field → List ℕ → ℕ
field_size Number8 octets = 1
field_size Number16 octets = 2
field_size Number32 octets = 4
field_size Interval octets = 4
field_size Ipv4 octets = 4
field_size Ipv6 octets = 16
field_size RecordType octets = 2
field_size SigType octets = 2
field_size Algorithm octets = 1
field_size CertificateType octets = 2
field_size SyncScheme octets = 1
field_size Eui48 octets = 6
field_size Eui64 octets = 8
field_size Time octets = 4
field_size Locator octets = 8
field_size String octets = counted_size octets
field_size PsdnAddress octets = counted_size octets
field_size Tag octets = counted_size octets
field_size Salt octets = counted_size octets
field_size Hash octets = counted_size octets
field_size Name octets = labels_size (length octets) octets

-- the token of a field
abbrev pub printed_field : Field → List ℕ → PrintedToken
printed_field f form = record { is_quoted = (field_form None f).quotes; text = (field_form None f).printed form }

-- the tokens of the first fields, one after another, and after them those of the tail
abbrev pub printed_parts : List Field → Rest → List ℕ → List PrintedToken
printed_parts [] rest octets = (rest_form None rest).printed octets
printed_parts (f ∷ fs) rest octets = printed_field f (take (field_size f octets) octets) ∷ printed_parts fs rest (drop (field_size f octets) octets)

-- what follows the first fields
abbrev pub after_fields : List Field → List ℕ → List ℕ
after_fields [] octets = octets
after_fields (f ∷ fs) octets = after_fields fs (drop (field_size f octets) octets)

-- RDATA without a text form prints in the generic form
abbrev pub printed_with : List Field → Rest → List ℕ → List PrintedToken
printed_with fields rest octets = if has_no_text rest (after_fields fields octets) then generic_form.printed octets else printed_parts fields rest octets

abbrev pub printed_data : Shape → List ℕ → List PrintedToken
printed_data shape octets = printed_with shape.fields.now shape.rest octets

-- a token in presentation format: the value of a quoted string is between double quotes
abbrev pub token_bytes : PrintedToken → List ℕ
token_bytes t = if t.is_quoted then double_quote ∷ (t.text ++ double_quote ∷ []) else t.text
