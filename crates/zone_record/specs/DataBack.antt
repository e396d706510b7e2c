-- What RDATA prints as spells it again.
use Rattle.std.specs.Prelude.{ℕ, Option, List}
use Rattle.rdata_values.specs.declared.types.RecordType.{RecordType}
use Rattle.rdata_tokens.specs.NameSpelling.{IsOrigin}
use Rattle.rdata_tokens.specs.Spelling.{AreOctetValues}
use Rattle.dns_lexer.specs.EntryTokens.{TokenSeen}
use Rattle.rdata.specs.ByType.{SpellsTypeData}
use Rattle.rdata.specs.Rests.{ArePrinted}
use Rattle.zone_record.specs.DataTokens.{data_tokens}
use Rattle.zone_record.specs.TypeData.{IsTypeData}

-- whatever the origin is, the tokens that RDATA of a type prints as spell it
abbrev pub IsTypeDataReadBack : Type 0
IsTypeDataReadBack = (origin : Option (List (List ℕ))) (rtype : RecordType) (octets : List ℕ) (tokens : List TokenSeen) → IsOrigin origin → AreOctetValues octets → IsTypeData rtype octets
    → ArePrinted (data_tokens rtype octets) tokens → SpellsTypeData origin rtype tokens octets
