-- Records, and the tokens that they print as.
use Rattle.std.specs.Prelude.{ℕ, List, [], ◌∷◌, ◌++◌, decimal, is_some, if◌then◌else◌}
use Rattle.rdata_values.specs.Classes.{class_text}
use Rattle.rdata_values.specs.Types.{type_text, portable_text}
use Rattle.rdata_values.specs.declared.types.RecordType.{RecordType}
use Rattle.rdata_tokens.specs.PrintedNames.{wire_name_text}
use Rattle.dns_wire.specs.Wire.{wire}
use Rattle.dns_zone.specs.Layout.{Step, begin, end}
use Rattle.dns_zone.specs.Nesting.{IsNested}
use Rattle.dns_zone.specs.Forming.{nested_in_block}
use Rattle.rdata.specs.ByType.{shape_of_code}
use Rattle.rdata.specs.GatewayKeys.{plain_word}
use Rattle.zone_record.specs.RdataPrinting.{token_steps}
use Rattle.rdata.specs.Rests.{PrintedToken}
use Rattle.zone_record.specs.DataTokens.{data_tokens, data_document, data_nests, tokens_have_no_line}
use Rattle.zone_record.specs.TypeData.{TypeData}
use Rattle.zone_record.specs.declared.record.Record.{Record}

-- the type of a record: its name if RDATA of the type prints in text form, and before the generic form the name only if every reader knows it
abbrev pub record_type_text : RecordType → List ℕ
record_type_text rtype = if is_some (shape_of_code rtype) then type_text rtype else portable_text rtype

abbrev pub data_of : {N O : Type 0} → Record N O → TypeData
data_of r = r.«data»

-- the owner, the TTL, the class and the type, each a word
abbrev pub head_tokens : {N O : Type 0} → Record N O → List PrintedToken
head_tokens r =
    plain_word (wire_name_text (wire r.owner)) ∷ plain_word (decimal r.ttl) ∷ plain_word (class_text r.class)
    ∷ plain_word (record_type_text (data_of r).rtype) ∷ []

-- the owner, the TTL, the class and the type, and after them the RDATA
abbrev pub record_tokens : {N O : Type 0} → Record N O → List PrintedToken
record_tokens r = head_tokens r ++ data_tokens (data_of r).rtype (data_of r).octets

-- the RDATA is in a block
abbrev pub record_document : {N O : Type 0} → Record N O → List Step
record_document r = token_steps (head_tokens r) ++ begin ∷ (data_document (data_of r) ++ end ∷ [])

pub record_nests : {N O : Type 0} (r : Record N O) → IsNested (record_document r)
record_nests r =
    nested_in_block (data_document (data_of r)) (data_nests (data_of r)) (tokens_have_no_line (data_tokens (data_of r).rtype (data_of r).octets))
