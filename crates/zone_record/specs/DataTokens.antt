-- RDATA as the tokens that it prints as.
use Rattle.std.specs.Prelude.{◌≡◌, ℕ, false, Option, Some, None, List, [], ◌∷◌, refl}
use Rattle.dns_zone.specs.Layout.{Step}
use Rattle.dns_zone.specs.Nesting.{IsNested, has_line}
use Rattle.rdata_values.specs.declared.types.RecordType.{RecordType}
use Rattle.rdata.specs.ByType.{shape_of_code}
use Rattle.rdata.specs.Generic.{generic_form}
use Rattle.rdata.specs.Printing.{printed_with}
use Rattle.zone_record.specs.RdataPrinting.{token_steps}
use Rattle.rdata.specs.Rests.{PrintedToken}
use Rattle.rdata.specs.Types.{TypeShape}
use Rattle.zone_record.specs.TypeData.{TypeData}

-- the tokens of RDATA of a shape, and without a shape those of the generic format (RFC 3597 section 5)
abbrev pub tokens_of_shape : Option TypeShape → List ℕ → List PrintedToken
tokens_of_shape None octets = generic_form.printed octets
tokens_of_shape (Some s) octets = printed_with s.fields s.rest octets

-- the tokens of RDATA in the presentation format of its type, or in the generic format if it has none
abbrev pub data_tokens : RecordType → List ℕ → List PrintedToken
data_tokens rtype octets = tokens_of_shape (shape_of_code rtype) octets

abbrev pub data_document : TypeData → List Step
data_document d = token_steps (data_tokens d.rtype d.octets)

-- ---- tokens alone have no blocks and no line ends

pub tokens_are_nested : (tokens : List PrintedToken) → IsNested (token_steps tokens)
tokens_are_nested [] = refl
tokens_are_nested (t ∷ ts) = tokens_are_nested ts

pub tokens_have_no_line : (tokens : List PrintedToken) → has_line (token_steps tokens) ≡ false
tokens_have_no_line [] = refl
tokens_have_no_line (t ∷ ts) = tokens_have_no_line ts

pub data_nests : (d : TypeData) → IsNested (data_document d)
data_nests d = tokens_are_nested (data_tokens d.rtype d.octets)
